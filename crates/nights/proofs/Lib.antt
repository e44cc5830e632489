pub mod Laws
pub mod Fair
pub mod Plainly
pub mod Count
pub mod Late
pub mod Looked
pub mod Between
pub mod Unmarked
