pub mod Fitting
pub mod Wider
pub mod Kept
pub mod Entries
pub mod Blanking
pub mod Declared
pub mod Numbering
