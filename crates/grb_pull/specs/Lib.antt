pub mod Exchanged
pub mod RowSums
