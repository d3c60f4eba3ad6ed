pub mod Pushes
pub mod Unmarked
pub mod Wanted
