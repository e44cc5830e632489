pub mod Ahead
pub mod Returns
pub mod Laws
pub mod Since
pub mod With
pub mod Sample
pub mod Plainly
