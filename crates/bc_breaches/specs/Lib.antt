pub mod Firsts
pub mod Lookups
pub mod Declarations
pub mod Typing
