pub mod Answers
pub mod Tally
pub mod Count
