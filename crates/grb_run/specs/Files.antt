-- believed: What the source of the program counts, and the fault that an error of a file is (own).
use Rattle.std.specs.Prelude.{ℕ, ◌<◌, List, length, Option, IfSome}
use Rattle.std.specs.declared.io.ErrorKind.{ErrorKind}
use Rattle.std.specs.declared.io.ErrorKind.TheVariants as kind
use Rattle.grb_run.specs.declared.files.FileSource.{FileSource}
use Rattle.grb_run.specs.declared.source.SourceFault.{SourceFault}
use Rattle.grb_run.specs.declared.source.SourceFault.TheVariants.{CannotRead, OutOfMemory}
use Rattle.grb_run.specs.Source.{FaultCounts}

-- how often each fault came
abbrev pub counts_of : {R : Type 0} → FileSource R → FaultCounts
counts_of s = record { cannot_read = s.cannot_read; too_long = s.too_long; out_of_memory = s.out_of_memory }

-- want of memory is told apart, and nothing else
abbrev pub fault_of_kind : ErrorKind → SourceFault
fault_of_kind kind.OutOfMemory = OutOfMemory
fault_of_kind _ = CannotRead

-- there is a file with more bytes than the limit, where files tell their bytes
abbrev pub IsOverLimit : {F : Type 0} → (F → Option (List ℕ)) → ℕ → Type 0
IsOverLimit {F} told limit = (file : F) × IfSome (told file) (λ bytes. limit < length bytes)
