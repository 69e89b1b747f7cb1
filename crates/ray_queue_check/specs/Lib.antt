pub mod Numbers
pub mod Arriving
pub mod Passing
pub mod Lanes
pub mod Kept
pub mod Sooner
