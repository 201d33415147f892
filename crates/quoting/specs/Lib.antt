pub mod Asking
pub mod Faults
pub mod Blank
pub mod Printing
pub mod Inputs
pub mod Quotes
