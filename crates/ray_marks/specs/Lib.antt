pub mod Making
pub mod Rising
pub mod Tree
