pub mod Answers
pub mod Register
pub mod Build
pub mod Take
pub mod Sound
