pub mod Visited
pub mod Visits
pub mod Reported
pub mod Laws
