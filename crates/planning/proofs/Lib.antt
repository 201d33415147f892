pub mod Steps
pub mod Tables
pub mod Plans
pub mod Agreeing
pub mod Judging
pub mod Stuck
pub mod Refused
pub mod Determined
