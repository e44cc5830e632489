pub mod Answers
pub mod Numerals
