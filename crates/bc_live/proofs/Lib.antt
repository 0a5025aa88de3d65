pub mod Listing
pub mod Within
pub mod Paths
pub mod Appending
