pub mod Answers
pub mod Ticket
pub mod Fit
pub mod Due
pub mod Rest
pub mod Folder
