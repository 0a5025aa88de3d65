pub mod Wires
pub mod Turns
pub mod Talks
pub mod Counted
pub mod Routed
pub mod Posts
