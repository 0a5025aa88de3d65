pub mod Sources
pub mod Points
pub mod Regions
pub mod Report
