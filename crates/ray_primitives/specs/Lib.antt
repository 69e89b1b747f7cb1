pub mod Primitives
pub mod Outcomes
pub mod Updates
pub mod TriangleReading
pub mod BoxReading
pub mod StoredPrimitives
