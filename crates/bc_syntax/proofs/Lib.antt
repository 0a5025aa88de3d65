pub mod Keywords
pub mod Fronts
pub mod Equality
pub mod Signatures
pub mod Marks
pub mod Projected
