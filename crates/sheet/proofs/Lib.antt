pub mod Laws
pub mod Right
pub mod Rowed
pub mod Written
pub mod Example
pub mod Plain
pub mod Steps
