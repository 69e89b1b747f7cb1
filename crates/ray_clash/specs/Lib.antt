pub mod Barriers
pub mod Clashes
pub mod Handing
pub mod Pairs
pub mod Sharing
pub mod Telling
