pub mod Faults
pub mod Forms
pub mod Pointer
pub mod Reads
pub mod Table
pub mod Wrong
