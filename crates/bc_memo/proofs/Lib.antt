pub mod Places
pub mod Parts
pub mod Closures
pub mod Marking
pub mod Found
