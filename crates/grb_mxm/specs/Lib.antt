pub mod Rows
pub mod RowProducts
pub mod AllowedSums
