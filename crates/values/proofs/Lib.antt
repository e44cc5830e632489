pub mod Table
pub mod Bytes
pub mod Sized
pub mod Bits
pub mod Refusals
pub mod Ends
pub mod Laws
