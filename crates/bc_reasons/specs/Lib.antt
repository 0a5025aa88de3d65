pub mod Parts
pub mod Demands
pub mod Paths
pub mod Uses
