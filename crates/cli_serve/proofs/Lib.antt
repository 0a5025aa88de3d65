pub mod Wholes
pub mod Opening
pub mod Joining
pub mod Closing
pub mod Told
pub mod Telling
pub mod Printing
mod Sending
