pub mod Laws
pub mod Put
pub mod Steps
pub mod Plain
