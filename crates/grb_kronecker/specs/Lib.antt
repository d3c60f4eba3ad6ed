pub mod Crossing
pub mod Factors
pub mod Product
pub mod Rows
