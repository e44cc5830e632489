pub mod Answers
pub mod Catalogue
