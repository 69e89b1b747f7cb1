mod Here
mod Room
