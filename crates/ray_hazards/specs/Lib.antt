pub mod Cells
pub mod Counting
pub mod Lasts
pub mod Reaching
pub mod Lanes
pub mod Checks
pub mod Carrying
