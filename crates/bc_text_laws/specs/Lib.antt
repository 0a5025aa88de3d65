pub use Rattle.bc_syntax.specs.Spelling
pub use Rattle.bc_print.specs.Printing
pub use Rattle.bc_tokens.specs.Token
pub use Rattle.bc_text.specs.Spells
pub use Rattle.bc_text.specs.Reading
pub mod Standing
pub mod Laws
