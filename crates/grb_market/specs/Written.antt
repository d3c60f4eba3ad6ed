-- believed: What is left where a matrix was not written (own).
use Rattle.std.specs.Prelude.{◌≡◌, ℕ, ◌+◌, Bool, true, false, List, ◌++◌, take, Option, Result, Err}
use Rattle.std.specs.Io.KnownBytes.{Appends}
use Rattle.grb_market.specs.declared.fault.WriteFault.{WriteFault}
use Rattle.grb_market.specs.declared.fault.WriteFault.TheVariants as write
use Rattle.grb_market.specs.Sink.{AppendsBeginning}

-- a beginning of these bytes was taken, of some length
abbrev pub AppendsFront : Option (List ℕ) → Option (List ℕ) → List ℕ → Type 0
AppendsFront before after bytes = (n : ℕ) × Appends before after (take n bytes)

-- what was taken of a text at this fault
abbrev pub TakenAtFault : List ℕ → Option (List ℕ) → Option (List ℕ) → WriteFault → Type 0
TakenAtFault text before after write.NotPattern = after ≡ before
TakenAtFault text before after write.Sink = AppendsBeginning before after text
TakenAtFault text before after write.OutOfMemory = AppendsFront before after text

-- how often the sink has failed behind a write: once more where it is the fault, and else no more
abbrev pub failures_after_write : ℕ → Result (Unit {0}) WriteFault → ℕ
failures_after_write failures (Err write.Sink) = failures + 1
failures_after_write failures _ = failures

-- the fault is the matrix's
abbrev pub is_not_pattern : WriteFault → Bool
is_not_pattern write.NotPattern = true
is_not_pattern _ = false

-- the front of a text was put, and this is left of it
abbrev pub PutFront : Option (List ℕ) → Option (List ℕ) → List ℕ → List ℕ → Type 0
PutFront before after text left = (front : List ℕ) × Appends before after front × (text ≡ front ++ left)
