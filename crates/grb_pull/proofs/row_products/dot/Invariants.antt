use Rattle.grb_kernels.specs.Typed.{first_entries}
use Rattle.grb_semirings.specs.Products.{products}
use Rattle.grb_semirings.proofs.Sums.{IsSumming}
use Rattle.grb_pull.proofs.row_products.dot.Given as goal

-- the row so far
abbrev pub invariant-row : goal.invariant-row
invariant-row g l =
    IsSumming g.M.MonoidOver.monoid (products g.O.Operator.op (g.L.Lookup.holds l.vector) (first_entries g.T.Scalar.value l.i l.columns l.values))
    (g.T.Scalar.value l.sum) l.any
