pub mod Overlap
pub mod Padding
pub mod Masks
