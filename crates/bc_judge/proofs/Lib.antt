pub mod Walks
pub mod Locals
pub mod OutOfScope
pub mod Closure
pub mod Law
pub mod Inside
pub mod Turns
pub mod Once
