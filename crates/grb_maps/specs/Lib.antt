pub mod Bound
pub mod Changed
pub mod Placed
pub mod Runs
