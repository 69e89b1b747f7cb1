pub mod Utf8Json
pub mod Going
pub mod Recorded
pub mod Sourced
