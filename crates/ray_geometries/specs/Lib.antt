pub mod Contents
pub mod Tallies
pub mod Storing
