pub mod Rebuilding
pub mod Rebuilt
