pub mod Loans
pub mod Scope
pub mod Overwrites
pub mod Walks
pub mod Entries
pub mod Inside
pub mod Sweeps
pub mod Flows
