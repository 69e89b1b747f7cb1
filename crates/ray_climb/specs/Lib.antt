pub mod Frames
pub mod Halves
pub mod Ready
pub mod Refits
pub mod Rule
pub mod Seats
pub mod Steps
