mod Crossed
mod Prelude
mod Transposes
pub mod Builds
pub mod Diagonals
pub mod Dimensions
pub mod Each
pub mod Edits
pub mod Folds
pub mod Gridded
pub mod Made
pub mod Maps
pub mod MonoidLaws
pub mod Products
pub mod Pulls
pub mod ResultLaws
pub mod ResultRows
pub mod Rows
pub mod Whole
pub mod Written
