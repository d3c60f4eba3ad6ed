use Rattle.std.proofs.Common.{◌≡◌, ◌*◌, ◌++◌, length}
use Rattle.grb_core.specs.Operator.{value_of_op}
use Rattle.grb_kernels.specs.Typed.{entries_of, first_entries, entries_from}
use Rattle.grb_kronecker.specs.Crossing.{crossed}
use Rattle.grb_kronecker.proofs.crossing.cross_row.Given as goal

abbrev pub invariant-entries : goal.invariant-entries
invariant-entries g l = record {
  k : l.k ≡ l.at * length l.y.indices.now;
  so_far : first_entries g.T.Scalar.value l.k l.columns l.values
      ++ crossed (value_of_op g.O.Operator.op) l.ncols (entries_from g.T.Scalar.value l.at l.x.indices.now l.x.values.now) (entries_of g.T.Scalar.value l.y.indices.now l.y.values.now)
      ≡ crossed (value_of_op g.O.Operator.op) l.ncols (entries_of g.T.Scalar.value l.x.indices.now l.x.values.now) (entries_of g.T.Scalar.value l.y.indices.now l.y.values.now);
}
