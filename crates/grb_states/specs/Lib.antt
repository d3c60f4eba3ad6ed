pub mod Objects
pub mod Operation
pub mod Settled
pub mod State
pub mod StoredIn
