mod Parting
mod Operands
mod Keeping
mod Cutting
mod Finding
mod Lets
mod Reaching
mod Starting
