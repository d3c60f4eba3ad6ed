pub mod Dup
pub mod Lasts
pub mod Learnt
pub mod Nodes
pub mod Overwrites
