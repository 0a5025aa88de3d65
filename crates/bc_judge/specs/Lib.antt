pub mod Conflicts
pub mod Candidates
pub mod Lifetimes
pub mod Errors
pub mod Known
pub mod Explained
pub mod Lines
