pub use Rattle.bc_flow.specs.BitSet
pub use Rattle.bc_flow.specs.Flow
pub use Rattle.bc_flow.specs.Graph
pub mod Groups
pub mod Naming
pub mod Spread
