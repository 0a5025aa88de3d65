pub mod Ids
pub mod Lines
pub mod Sessions
pub mod Asking
pub mod Faults
pub mod Requests
pub mod Destinations
