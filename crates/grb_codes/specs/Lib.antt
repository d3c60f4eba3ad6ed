pub mod Arrays
pub mod Calls
pub mod Codes
pub mod Named
