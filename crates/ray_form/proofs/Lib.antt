pub mod RowSteps
pub mod Bytes
