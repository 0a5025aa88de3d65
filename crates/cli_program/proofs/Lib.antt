pub mod Stopping
pub mod Opening
pub mod Telling
