mod Ranges
mod Spelled
