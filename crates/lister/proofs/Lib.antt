pub mod Lending
pub mod Pouring
pub mod Tallied
pub mod Laws
pub mod Whole
pub mod Sample
