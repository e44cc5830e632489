pub mod Digits
pub mod Decimal
pub mod Laws
pub mod Steps
pub mod Plain
