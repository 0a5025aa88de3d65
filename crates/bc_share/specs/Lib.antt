pub mod Sessions
pub mod Closings
pub mod Works
