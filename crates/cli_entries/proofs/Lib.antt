pub mod Roots
pub mod Objects
