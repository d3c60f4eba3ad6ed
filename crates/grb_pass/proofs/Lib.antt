mod Choosing
mod Evaluating
mod Held
mod Looking
mod Making
mod Opening
mod Prelude
pub mod Promised
mod Replying
mod Settling
mod Succeeding
pub use Rattle.grb_reader.proofs.Agreeing
pub use Rattle.grb_reader.proofs.Alone
