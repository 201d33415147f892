pub mod Refusals
pub mod States
pub mod Calls
