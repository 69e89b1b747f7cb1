pub mod Builds
pub mod Geometries
