pub mod Refusals
pub mod Places
pub mod Acceptance
pub mod Asked
pub mod Limit
