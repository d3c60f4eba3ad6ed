-- believed: What a contract sees of the pass of a bounded store (own).
use Rattle.grb_context.specs.Known.{Shared, Knowing}

-- a pass and its context
pub record InStore : Type 0 where
  pub context : Shared
  pub pass : Knowing
