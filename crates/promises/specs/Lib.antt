pub mod Table
pub mod Order
pub mod Slips
pub mod Numbers
pub mod Noise
