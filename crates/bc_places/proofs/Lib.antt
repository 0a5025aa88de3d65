pub mod Ending
pub mod Quiet
pub mod Starts
pub mod Counts
