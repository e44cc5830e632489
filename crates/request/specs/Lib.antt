pub mod Answers
pub mod Request
