use Rattle.std.proofs.Common.{◌≡◌, drop}
use Rattle.grb_semirings.specs.Products.{is_any}
use Rattle.grb_pull.proofs.lookup.has_any.Given as goal

-- none so far
abbrev pub invariant-columns : goal.invariant-columns
invariant-columns g l = is_any (g.L.Lookup.holds l.vector) l.columns ≡ is_any (g.L.Lookup.holds l.vector) (drop l.column-index l.columns)
