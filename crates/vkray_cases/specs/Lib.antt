pub mod Cases
pub mod Told
pub mod Judged
pub mod Tallies
