pub mod Heads
pub mod Rows
pub mod InstanceBytes
pub mod Form
