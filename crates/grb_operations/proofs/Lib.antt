mod Assembled
mod Dispatched
mod LentProducts
mod LentTerms
mod Premises
pub mod Lent
