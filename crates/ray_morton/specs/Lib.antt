pub mod Keys
pub mod KeyOrder
pub mod Cuts
pub mod Entries
pub mod Planted
pub mod Words
pub mod Tips
