pub mod Orders
pub mod Waits
mod Popping
mod Pending
mod Moving
mod Farther
mod Underway
pub mod Growing
pub mod Added
mod SameDistance
