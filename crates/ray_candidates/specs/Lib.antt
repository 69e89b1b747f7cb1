pub mod Candidates
pub mod Laws
pub mod Standing
pub mod Telling
pub mod Placements
