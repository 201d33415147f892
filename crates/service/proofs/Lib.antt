pub mod Performed
pub mod Parts
pub mod Progress
pub mod Determined
pub mod Unchanged
