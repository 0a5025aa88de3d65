pub mod Equality
pub mod Within
pub mod Cells
pub mod Segments
pub mod Ascii
