pub mod Laws
pub mod Plainly
pub mod JobZero
pub mod Whole
pub mod Sweep
