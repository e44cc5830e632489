pub mod Standing
pub mod Ranking
pub mod Calls
pub mod Answers
pub mod Laws
pub mod Passed
pub mod Count
pub mod Folder
