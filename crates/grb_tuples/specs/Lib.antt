pub mod SameDomain
pub mod Sources
pub mod Tuples
