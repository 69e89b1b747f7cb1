pub mod Subtrees
pub mod Children
pub mod Wides
pub mod Ways
pub mod Cuts
pub mod Lanes
