pub mod Axis
pub mod Lists
