pub mod Answers
pub mod Sheet
pub mod Promised
