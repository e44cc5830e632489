pub mod Laws
pub mod Moving
