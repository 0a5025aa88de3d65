pub mod Beginning
pub mod Settling
