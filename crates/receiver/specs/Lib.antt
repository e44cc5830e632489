pub mod Answers
pub mod Receiver
pub mod Parts
pub mod Chunks
