pub mod Blocked
pub mod Lent
