pub mod Meaning
pub mod Written
pub mod WrittenAgain
pub mod TopWritten
pub mod TopMeaning
pub mod Replaced
pub mod Standing
