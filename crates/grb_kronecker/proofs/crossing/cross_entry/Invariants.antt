use Rattle.std.proofs.Common.{◌≡◌, ◌+◌, ◌++◌}
use Rattle.grb_core.specs.Operator.{value_of_op}
use Rattle.grb_kernels.specs.Typed.{entries_of, first_entries, entries_from}
use Rattle.grb_kronecker.specs.Crossing.{shifted}
use Rattle.grb_kronecker.proofs.crossing.cross_entry.Given as goal

abbrev pub invariant-entries : goal.invariant-entries
invariant-entries g l =
    first_entries g.T.Scalar.value (l.k + l.at) l.columns l.values ++ shifted (value_of_op g.O.Operator.op) l.base (g.T.Scalar.value l.a) (entries_from g.T.Scalar.value l.at l.js l.vs)
    ≡ first_entries g.T.Scalar.value l.k l.fn.columns l.fn.values ++ shifted (value_of_op g.O.Operator.op) l.base (g.T.Scalar.value l.a) (entries_of g.T.Scalar.value l.js l.vs)
