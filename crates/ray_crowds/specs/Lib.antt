pub mod Counts
pub mod Crowds
pub mod Pointers
pub mod Rules
