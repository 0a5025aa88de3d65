pub mod Logs
pub mod Moves
