pub mod Every
pub mod Told
