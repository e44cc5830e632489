pub mod Answers
pub mod Writer
pub mod Promised
