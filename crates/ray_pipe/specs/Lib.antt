pub mod HitGroup
pub mod Tables
pub mod Shapes
pub mod Reading
