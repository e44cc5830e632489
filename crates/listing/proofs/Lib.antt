pub mod Next
pub mod Events
pub mod Laws
pub mod Frames
pub mod Sample
pub mod Numbers
