pub mod Answers
pub mod Editor
pub mod Promised
