pub mod Compared
pub mod Bits
