-- believed: The fault of a run by what made it end.
use Rattle.std.specs.Prelude.{ℕ}
use Rattle.grb_market.specs.declared.fault.ReadError.{ReadError}
use Rattle.grb_market.specs.declared.fault.ReadError.TheVariants as market
use Rattle.grb_script.specs.declared.fault.ReadFault.{ReadFault}
use Rattle.grb_script.specs.declared.fault.ReadFault.TheVariants as read
use Rattle.grb_run.specs.declared.fault.RunFault.{RunFault}
use Rattle.grb_run.specs.declared.fault.RunFault.TheVariants as run
use Rattle.grb_run.specs.declared.source.SourceFault.{SourceFault}
use Rattle.grb_run.specs.declared.source.SourceFault.TheVariants as source

-- the source did not give the script
abbrev pub source_run_fault : SourceFault → RunFault
source_run_fault source.CannotRead = run.CannotReadScript
source_run_fault source.TooLong = run.ScriptTooLong
source_run_fault source.OutOfMemory = run.OutOfMemory

-- the script was not read
abbrev pub read_run_fault : ReadFault → RunFault
read_run_fault (read.Fault fault) = run.Script fault.line fault.kind
read_run_fault read.OutOfMemory = run.OutOfMemory

-- the source did not give the file of the load on this line
abbrev pub file_run_fault : ℕ → SourceFault → RunFault
file_run_fault line source.CannotRead = run.CannotReadFile line
file_run_fault line source.TooLong = run.FileTooLong line
file_run_fault line source.OutOfMemory = run.OutOfMemory

-- the file of the load on this line was not read as a matrix
abbrev pub load_run_fault : ℕ → ReadError → RunFault
load_run_fault line (market.Fault fault) = run.Load line fault
load_run_fault line market.OutOfMemory = run.OutOfMemory
