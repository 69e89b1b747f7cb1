pub mod Joining
mod Stretches
