pub mod Changes
pub mod Holding
pub mod Kept
pub mod LaidOut
pub mod Latest
pub mod Layered
pub mod Merging
