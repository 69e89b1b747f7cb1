pub mod Written
pub mod Got
