use Rattle.std.proofs.Common.{◌≡◌}
use Rattle.grb_market.proofs.Prelude.{list_any, is_false}
use Rattle.grb_market.proofs.writing.stores_false.Given as goal

abbrev pub invariant-loop-value : goal.invariant-loop-value
invariant-loop-value l = list_any (λ e. is_false e.1) l.matrix.matrix.entries ≡ list_any (λ e. is_false e.1) l.value-iterator
