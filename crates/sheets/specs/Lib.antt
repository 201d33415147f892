pub mod Refusals
pub mod Notes
pub mod Calls
pub mod Laws
pub mod Keeping
pub mod Flat
