pub mod Amounts
pub mod Limits
pub mod Naming
pub mod Sizes
pub mod Standing
