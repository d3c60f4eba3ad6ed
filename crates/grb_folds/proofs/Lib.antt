pub mod ChangedTotals
pub mod Spans
pub mod Windows
