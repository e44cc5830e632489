pub mod Night
pub mod Round
pub mod Between
pub mod Unmarked
