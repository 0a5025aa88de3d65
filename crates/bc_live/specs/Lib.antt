pub mod Live
pub mod Entries
