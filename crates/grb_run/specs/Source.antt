-- believed: What a source gives, and how often each of its faults came (own).
use Rattle.std.specs.Prelude.{◌≡◌, ℕ, ◌+◌, ◌<◌, ◌≤◌, ◌-◌, ◌^◌, List, length, Option, IfSome, Result, Ok, Err}
use Rattle.grb_run.specs.declared.source.SourceFault.{SourceFault}
use Rattle.grb_run.specs.declared.source.SourceFault.TheVariants.{CannotRead, TooLong, OutOfMemory}

-- how often each fault came
pub record FaultCounts : Type 0 where
  pub cannot_read : ℕ
  pub too_long : ℕ
  pub out_of_memory : ℕ

-- each count takes one more fault and stays below 2^64
pub record AreCountable (counts : FaultCounts) : Type 0 where
  pub cannot_read : counts.cannot_read < 2 ^ 64 - 1
  pub too_long : counts.too_long < 2 ^ 64 - 1
  pub out_of_memory : counts.out_of_memory < 2 ^ 64 - 1

-- the counts with one more of this fault
abbrev pub counted : FaultCounts → SourceFault → FaultCounts
counted counts CannotRead = record counts { cannot_read = counts.cannot_read + 1 }
counted counts TooLong = record counts { too_long = counts.too_long + 1 }
counted counts OutOfMemory = record counts { out_of_memory = counts.out_of_memory + 1 }

-- the counts when the source has answered this
abbrev pub counts_after : {X : Type 0} → FaultCounts → Result X SourceFault → FaultCounts
counts_after counts (Ok bytes) = counts
counts_after counts (Err fault) = counted counts fault

-- these bytes are what the source tells, where it tells them, and no longer than the limit
pub record IsGiven (told : Option (List ℕ)) (limit : ℕ) (bytes : List ℕ) : Type 0 where
  pub within : length bytes ≤ limit
  pub as_told : IfSome told (λ expected. bytes ≡ expected)
