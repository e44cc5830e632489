pub mod Deeds
pub mod Laws
