pub mod Ledgers
pub mod Memory
pub mod Operations
