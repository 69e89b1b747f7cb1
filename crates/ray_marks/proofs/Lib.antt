pub mod Choices
pub mod Trees
pub mod Marking
pub mod Asking
pub mod Lists
