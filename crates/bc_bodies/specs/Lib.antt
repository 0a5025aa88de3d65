pub mod Externals
pub mod Children
pub mod Mir
pub mod Places
pub mod Lines
pub mod PlaceTypes
