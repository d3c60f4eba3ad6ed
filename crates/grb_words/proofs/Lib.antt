pub mod Collected
pub mod IndicesLemmas
pub mod LoadLemmas
pub mod NumberLemmas
pub mod OptionLemmas
pub mod SemiringLemmas
pub mod TupleLemmas
