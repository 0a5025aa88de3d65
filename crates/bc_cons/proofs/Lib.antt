pub mod Bounding
pub mod Growing
pub mod Keeping
pub mod Mentioning
