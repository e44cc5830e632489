pub mod Overdue
pub mod Promised
