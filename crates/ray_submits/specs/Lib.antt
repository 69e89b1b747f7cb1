pub mod Shapes
pub mod Submits
pub mod Reading
pub mod Semaphores
pub mod Counts
pub mod Seen
