pub mod Beginnings
pub mod Turning
pub mod Places
