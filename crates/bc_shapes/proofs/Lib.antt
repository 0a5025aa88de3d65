pub mod Arguments
pub mod Blanking
