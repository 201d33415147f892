pub mod Places
pub mod Kept
pub mod Peaks
pub mod Products
pub mod Rows
pub mod Alike
