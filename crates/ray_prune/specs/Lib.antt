pub mod BoxSpan
pub mod Decided
pub mod Slabs
pub mod BoxReach
pub mod Pruning
pub mod Facing
