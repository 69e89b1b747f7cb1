pub mod Gathering
pub mod Limits
pub mod Bounds
