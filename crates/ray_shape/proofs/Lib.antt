mod Chosen
mod Moded
pub mod Named
mod Rows
mod Ruled
mod Steps
mod Walks
pub mod Weight
