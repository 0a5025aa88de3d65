pub mod Lexemes
pub mod Printed
pub mod Whole
pub mod Local
pub mod LocalUnits
pub mod LocalDeclarations
pub mod Agree
pub mod Faults
