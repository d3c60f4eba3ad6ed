pub mod Word
pub mod View
pub mod Rule
pub mod Steps
pub mod Holding
pub mod Seat
pub mod Order
pub mod Laws
