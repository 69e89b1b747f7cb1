pub mod Joining
pub mod Queues
pub mod Reaching
