pub mod Distributing
pub mod Grouping
pub mod Identity
pub mod Lookups
pub mod OneColumn
pub mod Sums
pub mod Totals
