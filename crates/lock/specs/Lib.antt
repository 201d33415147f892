pub mod Lock
pub mod Noted
pub mod Round
