pub mod Work
pub mod Field
pub mod Rays
pub mod Spots
pub mod Tested
pub mod Status
pub mod Drawers
