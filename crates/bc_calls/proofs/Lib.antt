pub mod Equality
pub mod Histories
pub mod Beginnings
pub mod Parts
pub mod Answering
pub mod Changing
pub mod Roots
