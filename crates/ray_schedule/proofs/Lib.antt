pub mod Course
pub mod Places
pub mod Permitted
pub mod Turns
pub mod Waving
pub mod Below
pub mod Whole
pub mod InTurn
