mod Apart
mod Steps
mod Sums
