pub mod Conflicts
pub mod Parts
