pub mod Events
pub mod Listing
pub mod Places
