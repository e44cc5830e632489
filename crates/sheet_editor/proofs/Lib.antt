pub mod Parts
pub mod Moved
pub mod Chosen
pub mod Steps
pub mod Rising
pub mod Laws
pub mod Plainly
pub mod Example
