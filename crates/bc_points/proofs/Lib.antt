pub mod Clauses
pub mod Prefixes
pub mod Returning
pub mod Supporting
