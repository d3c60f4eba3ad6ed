-- inside: no public contract names it. Which cell of its row a pass puts its next record into (own).
use Rattle.std.specs.Prelude.{ℕ, ◌+◌, nat_lt, if◌then◌else◌, Result, Err}
use Rattle.grb_core.specs.declared.refusal.Refusal.{Refusal}
use Rattle.grb_core.specs.declared.refusal.Refusal.TheVariants.{OutOfMemory}
use Rattle.grb_records.specs.Token.{Shown}

-- After a put: the same cell where memory was refused, else the next one, while there is one
abbrev pub next_after : ℕ → ℕ → Result Shown Refusal → ℕ
next_after room next (Err OutOfMemory) = next
next_after room next _ = if nat_lt next room then next + 1 else next
