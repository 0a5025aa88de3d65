pub mod Mirs
pub mod Replacing
