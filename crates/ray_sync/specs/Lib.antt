pub mod Covering
pub mod Events
pub mod Fronts
pub mod Hazards
pub mod Kinds
pub mod OneQueue
pub mod Rows
