-- inside: no public contract names it. Editions: calls, and results of them (own).
use Rattle.std.specs.Prelude.{◌≡◌, ◌≤◌, ℕ, List, length}
use Rattle.grb_call.specs.declared.call.Call.{Call}
use Rattle.grb_results.specs.declared.exchange.Kept.{Kept}
use Rattle.grb_results.specs.declared.table.Table.{Table}
use Rattle.grb_results.specs.Kept.{IsSameBut, KeepsAll, KeepsFrom}
use Rattle.grb_results.specs.Results.{IsTable}

-- what a contract sees of an edition: its calls, and the results that it has of them
pub record EditionView : Type 0 where
  pub calls : List Call
  pub results : List Kept

-- a table keeps more results of these calls: those of an edition of so many of them, or none of 0
pub record IsTaken (calls : List Call) (old new : Table) (count : ℕ) : Type 0 where
  pub table : IsTable calls old → IsTable calls new
  pub same : IsSameBut old new
  pub stays : KeepsAll old new
  pub first : KeepsFrom count old new
  pub within : count ≤ length calls
  pub none : count ≡ 0 → new ≡ old
