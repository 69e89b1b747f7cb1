pub mod Places
pub mod LeafItems
pub mod Packed
pub mod Lists
