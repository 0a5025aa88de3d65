pub mod Typing
pub mod Typed
pub mod Laws
pub mod Lines
pub mod Rules
pub mod Drops
pub mod WellFormed
