pub mod Known
pub mod Dropping
pub mod Adding
pub mod Growing
pub mod Demanding
pub mod Marking
pub mod Appending
