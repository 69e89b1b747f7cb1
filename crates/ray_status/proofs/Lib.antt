mod Kept
mod Placing
mod Sums
