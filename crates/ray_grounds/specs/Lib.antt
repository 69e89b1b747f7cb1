pub mod Asking
pub mod Ends
pub mod Entries
pub mod Facts
pub mod Grounds
pub mod Origins
pub mod Submits
