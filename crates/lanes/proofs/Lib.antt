pub mod Calls
pub mod Answers
pub mod Ranking
pub mod Laws
