pub mod Printed
pub mod Ends
