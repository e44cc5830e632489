pub mod Answers
pub mod Words
pub mod Line
pub mod Parts
