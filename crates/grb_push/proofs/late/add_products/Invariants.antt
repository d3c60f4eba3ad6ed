use Rattle.std.proofs.Common.{◌++◌}
use Rattle.grb_core.specs.Entries.{VectorEntries}
use Rattle.grb_kernels.specs.Typed.{first_entries}
use Rattle.grb_sums.specs.ColumnSums.{with_values}
use Rattle.grb_push.specs.Unmarked.{AreFolds}
use Rattle.grb_push.proofs.late.add_products.Given as goal

-- the entries so far are added
abbrev pub invariant-entries : goal.invariant-entries
invariant-entries g l =
    let tv = g.T.Scalar.value in
    let m = g.M.MonoidOver.monoid in
    (added : VectorEntries) → AreFolds tv m added l.fn.sums → AreFolds tv m (added ++ with_values (g.R.Term.gives l.term) (first_entries tv l.i l.columns l.values)) l.sums
