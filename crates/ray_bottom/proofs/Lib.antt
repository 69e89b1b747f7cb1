pub mod Held
pub mod Standing
pub mod Places
pub mod LeafItems
mod Updating
