pub mod Answers
pub mod Lanes
pub mod Join
pub mod Grant
pub mod Withdraw
