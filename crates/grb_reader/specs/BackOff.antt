-- believed: How long a pass holds back after a lost try (own), in turns of a loop that does nothing. Herlihy, "A methodology for
-- implementing highly concurrent data objects", 1993: exponential back-off.
use Rattle.std.specs.Prelude.{ℕ, ◌*◌, ◌-◌, ◌≤◌, min, max, Bool, if◌then◌else◌}

-- a wait has so many turns
pub record IsBounded (turns : ℕ) : Type 0 where
  pub fewest : 16 ≤ turns
  pub most : turns ≤ 1024

-- the turns of the next wait after a try: twice as many where it was lost, else one less, as far as the bounds allow
abbrev pub wait_after : Bool → ℕ → ℕ
wait_after lost turns = if lost then min (2 * turns) 1024 else max (turns - 1) 16
