pub mod Answers
pub mod Teller
pub mod Parts
pub mod Asked
