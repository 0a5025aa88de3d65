pub mod Texts
pub mod Json
