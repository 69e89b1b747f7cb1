pub mod Lengths
pub mod ReadAgain
pub mod NodeCounts
pub mod Rooms
pub mod Found
pub mod Grown
