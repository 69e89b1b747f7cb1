pub mod Tables
pub mod Going
pub mod Whole
mod Reaching
