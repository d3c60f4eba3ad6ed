pub mod Bits
pub mod ColumnSums
pub mod Marks
pub mod Naming
pub mod Numbers
pub mod Open
pub mod Reach
pub mod Spans
