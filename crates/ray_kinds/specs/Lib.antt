pub mod Kinds
pub mod Misfits
pub mod Words
pub mod Usages
