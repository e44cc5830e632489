pub mod Laws
pub mod Lists
pub mod Steps
pub mod Plain
