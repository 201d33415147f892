pub mod Refusals
pub mod Calls
pub mod Serving
pub mod Laws
