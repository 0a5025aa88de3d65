pub mod OneLine
pub mod Placing
