pub mod Remainder
pub mod Noise
