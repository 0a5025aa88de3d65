pub mod Noting
pub mod Audits
pub mod Closings
pub mod Working
