pub mod Tables
pub mod Publishing
