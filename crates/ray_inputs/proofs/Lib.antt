pub mod Submitted
pub mod Sourced
