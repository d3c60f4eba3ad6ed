pub mod Asked
pub mod Exchanges
pub mod Full
pub mod RowLists
pub mod RowSums
pub mod WantedResults
pub mod WantedRows
pub mod WholeRows
