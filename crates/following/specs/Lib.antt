pub mod Refusals
pub mod Runs
pub mod Courses
pub mod Following
pub mod Laws
