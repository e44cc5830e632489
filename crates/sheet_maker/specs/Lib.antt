pub mod Answers
pub mod Maker
pub mod Gathering
