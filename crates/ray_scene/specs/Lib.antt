pub mod Grid
pub mod Recording
pub mod Text
