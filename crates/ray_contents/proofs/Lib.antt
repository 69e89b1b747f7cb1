pub mod Gathered
pub mod Within
pub mod Extending
