pub mod Counting
pub mod Remembering
pub mod Keeping
pub mod Recalling
pub mod Listing
pub mod Settling
pub mod Fitting
pub mod Entering
