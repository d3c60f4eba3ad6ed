mod Running
pub mod Waited
pub use Rattle.grb_pass.proofs.Alone
pub use Rattle.grb_pass.proofs.Promised
