pub mod Texts
pub mod Table
