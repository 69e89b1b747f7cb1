pub mod Going
pub mod Signals
pub mod Counting
pub mod Odds
pub mod Refusing
pub mod Passing
pub mod Queued
