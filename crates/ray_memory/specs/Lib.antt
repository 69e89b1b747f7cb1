pub mod Bytes
pub mod Lines
pub mod State
pub mod Tracing
