pub mod FaultLemmas
pub mod FormLemmas
pub mod LawLemmas
pub mod NamesLemmas
mod Prelude
pub mod ScopeLemmas
pub mod ScriptLemmas
mod ScriptRows
