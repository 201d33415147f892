pub mod Model
pub mod Visits
pub mod Rows
pub mod Tables
pub mod Passed
