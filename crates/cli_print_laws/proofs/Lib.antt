pub mod Ink
pub mod Cutting
pub mod Again
