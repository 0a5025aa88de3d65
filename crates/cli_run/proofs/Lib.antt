pub mod Numbers
pub mod Headers
pub mod Statuses
pub mod Parting
pub mod Made
pub mod Stopping
pub mod Printing
