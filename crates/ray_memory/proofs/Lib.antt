pub mod Writing
pub mod Ranges
pub mod Changing
pub mod Texts
pub mod Rays
