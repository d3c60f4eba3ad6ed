pub mod Numbers
pub mod Rebuilding
pub mod Taken
