use Rattle.std.proofs.Common.{◌≡◌, drop}
use Rattle.std.specs.Prelude.{◌||◌}
use Rattle.grb_semirings.specs.Products.{is_any}
use Rattle.grb_pull.proofs.lookup.meets.Given as goal

-- one so far, or one of the rest
abbrev pub invariant-columns : goal.invariant-columns
invariant-columns g l = is_any (g.L.Lookup.holds l.vector) l.columns ≡ (l.any || is_any (g.L.Lookup.holds l.vector) (drop l.column-index l.columns))
