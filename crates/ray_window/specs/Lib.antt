pub mod Windows
pub mod Meets
pub mod Lines
