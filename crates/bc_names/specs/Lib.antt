pub mod Names
pub mod Stored
pub mod Laws
