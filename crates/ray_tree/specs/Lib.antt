pub mod Shapes
pub mod Trees
pub mod Local
pub mod Plans
pub mod Entries
pub mod Nesting
pub mod Waits
pub mod NodeBoxes
