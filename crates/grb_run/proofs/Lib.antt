mod CommandLineRows
mod Prelude
mod PrintedRows
pub mod AloneRuns
pub mod CommandLineReads
pub mod DefaultReads
pub mod Entries
pub mod Explained
pub mod FileBytes
pub mod LoadLemmas
pub mod OnePass
pub mod Runs
pub mod ScriptEnds
pub mod ScriptRuns
pub mod SectionSteps
pub mod Steps
pub mod ThreadLemmas
pub mod Wrote
