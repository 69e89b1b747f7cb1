pub mod LittleBytes
pub mod HitLaws
pub mod FirstRecords
