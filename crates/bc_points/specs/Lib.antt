pub mod Accesses
pub mod Prefixes
pub mod Points
pub mod Regions
pub mod Pairs
pub mod Supports
