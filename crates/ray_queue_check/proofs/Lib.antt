pub mod Numbers
pub mod Moving
pub mod Reaching
pub mod Using
pub mod Joined
pub mod Finding
