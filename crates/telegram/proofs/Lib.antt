pub mod Judge
pub mod Send
pub mod Sound
pub mod Ranking
pub mod Faulty
pub mod Laws
