pub mod Written
pub mod Telling
pub mod Asked
pub mod LineTexts
pub mod Once
