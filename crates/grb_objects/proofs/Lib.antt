pub mod Accepted
pub mod ByNumber
mod Edited
