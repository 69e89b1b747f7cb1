pub mod Advance
pub mod Within
pub mod Linked
pub mod Limits
pub mod Listing
pub mod Chains
pub mod Steps
pub mod OneQueue
