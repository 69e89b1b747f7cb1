pub mod Causes
pub mod Geometries
pub mod Multiples
pub mod Names
pub mod Naming
pub mod Pointers
pub mod Ranges
