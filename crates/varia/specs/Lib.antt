pub mod Answers
pub mod Box
pub mod Ask
pub mod Display
