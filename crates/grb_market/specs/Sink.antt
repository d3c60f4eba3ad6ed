-- believed: What a sink takes, and how often it failed (own). `Appends` and `WriteAppends` are std's: where the bytes that a sink
-- took so far are told they grow by those, and nothing is claimed where they are not.
use Rattle.std.specs.Prelude.{ℕ, ◌+◌, ◌<◌, ◌==◌, ◌&&◌, not, true, Bool, if◌then◌else◌, List, length, take, Option, Result, Ok, Err}
use Rattle.std.specs.Io.KnownBytes.{Appends}
use Rattle.grb_market.specs.declared.sink.SinkFault.{SinkFault}

-- taking none of a piece that is not empty is a failure too
abbrev pub is_failure : Result ℕ SinkFault → List ℕ → Bool
is_failure (Ok n) bytes = (n == 0) && not (length bytes == 0)
is_failure (Err fault) bytes = true

-- how often the sink has failed when it answers this to a piece
abbrev pub failures_after : ℕ → Result ℕ SinkFault → List ℕ → ℕ
failures_after failures answer bytes = if is_failure answer bytes then failures + 1 else failures

-- a beginning of the bytes was taken, and not all of them
abbrev pub AppendsBeginning : Option (List ℕ) → Option (List ℕ) → List ℕ → Type 0
AppendsBeginning old new bytes = (n : ℕ) × (n < length bytes) × Appends old new (take n bytes)
