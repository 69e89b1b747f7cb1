pub mod Parts
pub mod Rays
pub mod Verified
pub mod Certified
pub mod Scenes
pub mod Laws
