pub mod Flows
pub mod Answering
pub mod Counting
pub mod Staying
pub mod Making
pub mod Routing
