pub mod Mutabilities
pub mod Replaced
pub mod Shapes
pub mod Forms
