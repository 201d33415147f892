pub mod Faults
pub mod Numerals
pub mod Lines
pub mod Kinds
pub mod Checking
pub mod Views
