pub mod Steps
pub mod Turns
pub mod Accepted
pub mod Totals
pub mod Covered
pub mod Led
pub mod Determined
pub mod Answered
