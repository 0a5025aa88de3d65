pub mod Listing
pub mod Overwriting
pub mod Ways
pub mod Regions
pub mod Telling
pub mod Closing
pub mod Seeding
pub mod Sweeping
