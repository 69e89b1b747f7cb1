mod Choosing
mod Meanings
pub mod Orders
mod Playing
pub mod Members
pub mod Rising
pub mod Plays
