pub mod Equality
pub mod Starts
pub mod Numbers
pub mod Lookup
pub mod Sets
pub mod Runs
