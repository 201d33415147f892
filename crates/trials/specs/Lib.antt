pub mod Switch
pub mod Lawful
pub mod Outlook
