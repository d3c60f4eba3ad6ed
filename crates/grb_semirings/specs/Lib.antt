pub mod Open
pub mod Products
