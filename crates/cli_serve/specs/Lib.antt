pub mod Stops
pub mod Talked
pub mod Served
pub mod Printed
