mod Values
mod Texts
mod Readings
pub mod Sending
