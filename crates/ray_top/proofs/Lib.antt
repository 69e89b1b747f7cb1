pub mod Index
pub mod Corners
pub mod Limits
pub mod Counting
pub mod Causes
pub mod Images
