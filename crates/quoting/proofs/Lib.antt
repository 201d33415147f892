pub mod Lines
pub mod Exactness
pub mod Once
pub mod Answered
pub mod Steps
