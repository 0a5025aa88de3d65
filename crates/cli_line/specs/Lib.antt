pub mod Parts
pub mod Values
pub mod Topics
pub mod Faults
pub mod Lines
pub mod Commands
pub mod Written
pub mod Usage
