pub mod Inside
pub mod Laws
pub mod Numbers
pub mod Seen
