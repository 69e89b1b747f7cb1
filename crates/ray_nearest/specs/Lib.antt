pub mod Scene
pub mod Parts
pub mod Adding
pub mod Turns
pub mod Kept
pub mod TurnLaws
pub mod Answer
pub mod Taking
