mod Handed
mod Mending
mod Paired
