pub mod Grouped
pub mod Spreading
