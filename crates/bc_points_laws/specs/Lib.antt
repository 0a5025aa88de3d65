pub use Rattle.bc_points.specs.Prefixes
pub use Rattle.bc_points.specs.Supports
pub mod Supporters
pub mod Laws
