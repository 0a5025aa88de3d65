pub use Rattle.bc_syntax.specs.Spelling
pub mod Printing
pub mod PrintedTypes
