pub mod Folds
pub mod Lent
pub mod Marks
pub mod Sums
