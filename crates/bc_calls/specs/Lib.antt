pub mod Calls
pub mod Changes
pub mod Answers
pub mod Works
pub mod Beginnings
