pub mod Answers
pub mod Desk
pub mod Folder
pub mod Open
pub mod Reply
pub mod Close
pub mod Outcome
