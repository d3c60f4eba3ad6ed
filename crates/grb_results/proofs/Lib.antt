mod BlankResults
mod Exchanging
pub mod Frame
pub mod Grown
mod LastKept
mod LastResults
pub mod Lists
mod Making
mod Prelude
pub mod Rebuilt
mod Settled
