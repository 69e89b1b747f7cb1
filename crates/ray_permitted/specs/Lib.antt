pub mod Separates
pub mod Job
pub mod Work
pub mod Along
pub mod Rules
pub mod Laws
