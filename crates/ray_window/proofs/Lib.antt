mod Rounding
mod Ends
mod Sizes
mod Starts
mod Turned
mod Shifts
pub mod Windows
