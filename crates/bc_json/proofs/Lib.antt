pub mod Lists
pub mod Objects
