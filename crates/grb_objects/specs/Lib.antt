pub mod Fits
pub mod Places
pub mod SharedContent
pub mod Stored
