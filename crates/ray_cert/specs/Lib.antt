pub mod Cuttings
pub mod Parts
pub mod Certificates
pub mod Checking
pub mod PlayLaw
pub mod Laws
pub mod Spelling
pub mod Words
