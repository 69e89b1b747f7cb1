pub mod Order
pub mod Stated
pub mod Stored
pub mod Carried
pub mod Entries
pub mod Reaches
pub mod Partings
pub mod Apart
