pub mod Words
pub mod Orders
pub mod Forms
pub mod Commands
pub mod Parts
pub mod Scripts
pub mod Laws
