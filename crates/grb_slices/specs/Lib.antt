pub mod Content
pub mod Laws
pub mod Slice
pub mod Steps
