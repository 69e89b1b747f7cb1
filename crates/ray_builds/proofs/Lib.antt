mod Breaking
mod Built
mod Geometries
