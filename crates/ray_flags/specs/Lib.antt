pub mod Flags
pub mod Words
pub mod Constants
pub mod Admission
