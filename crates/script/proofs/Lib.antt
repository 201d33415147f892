pub mod Wording
pub mod Tabled
pub mod Ordered
pub mod Parting
pub mod Written
pub mod Reread
pub mod Divided
