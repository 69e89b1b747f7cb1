pub mod Turns
pub mod Spots
