pub mod Traced
pub mod WideScene
pub mod Sound
pub mod Aims
pub mod Scenes
pub mod Bounding
