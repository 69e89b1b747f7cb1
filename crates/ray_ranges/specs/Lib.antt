pub mod Meeting
pub mod Apart
pub mod First
pub mod Places
pub mod Addresses
pub mod Sweep
