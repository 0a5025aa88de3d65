pub use Rattle.bc_cons.specs.Facts
pub use Rattle.bc_flow.specs.BitSet
pub use Rattle.bc_flow.specs.Flow
pub use Rattle.bc_groups.specs.Groups
pub mod Values
pub mod Chains
pub mod Ways
pub mod Explainer
