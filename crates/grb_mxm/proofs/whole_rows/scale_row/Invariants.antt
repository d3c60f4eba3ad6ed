use Rattle.std.proofs.Common.{◌≡◌, ◌≤◌, length}
use Rattle.std.specs.List.{AllByRecursion}
use Rattle.grb_core.specs.Value.{IsValueOf}
use Rattle.grb_core.specs.Operator.{value_of_op}
use Rattle.grb_kernels.specs.Typed.{first_entries}
use Rattle.grb_sums.specs.ColumnSums.{with_values}
use Rattle.grb_sums.specs.Naming.{name_in, renamed}
use Rattle.grb_mxm.proofs.whole_rows.scale_row.Given as goal

-- the entries so far, and that what is made of them is of the domain
abbrev pub invariant-entries : goal.invariant-entries
invariant-entries g l =
    let tv = g.T.Scalar.value in
    let first = renamed (name_in l.b.names.now) (first_entries tv l.i l.places l.factors) in
    record {
      room : length l.places ≤ length l.columns;
      so_far : first_entries tv l.i l.columns l.values ≡ with_values (value_of_op g.O.Operator.op (tv l.x)) first;
      of_domain : AllByRecursion (λ e. IsValueOf g.T.Scalar.domain (value_of_op g.O.Operator.op (tv l.x) e.1)) first;
    }
