mod Few
mod Going
mod Seeing
mod Staying
