pub mod State
pub mod Checks
pub mod Facts
pub mod Verdicts
pub mod Outcome
pub mod Pieces
pub mod Snapshots
