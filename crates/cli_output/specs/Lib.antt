pub mod Logs
pub mod Pens
pub mod Tokens
