pub mod Laws
pub mod NoKind
pub mod Steps
