pub mod Calls
pub mod Print
pub mod Runs
pub mod Ends
