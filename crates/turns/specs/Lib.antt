pub mod Turns
pub mod Queue
pub mod Fair
pub mod Outcome
