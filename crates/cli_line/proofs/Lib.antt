pub mod Telling
pub mod Words
pub mod Giving
pub mod Parts
pub mod Examples
