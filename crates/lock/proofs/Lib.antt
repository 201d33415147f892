pub mod Deciding
pub mod Planning
pub mod Leading
