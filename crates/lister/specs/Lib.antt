pub mod Answers
pub mod Text
pub mod Parts
