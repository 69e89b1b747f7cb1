pub mod Asked
pub mod AllJudged
