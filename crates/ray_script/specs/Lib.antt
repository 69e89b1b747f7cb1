pub mod Rules
pub mod Scripts
pub mod Distances
pub mod Meaning
