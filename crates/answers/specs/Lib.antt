pub mod Words
pub mod Printing
pub mod Requests
pub mod Texts
pub mod Views
pub mod Desk
pub mod Laws
