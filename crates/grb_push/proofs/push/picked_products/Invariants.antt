use Rattle.std.proofs.Common.{◌≡◌, All, take}
use Rattle.grb_core.specs.Value.{IsValueOf}
use Rattle.grb_lists.specs.Cells.{decoded}
use Rattle.grb_sums.specs.ColumnSums.{as_entries}
use Rattle.grb_push.specs.Pushes.{pushed, at_numbers}
use Rattle.grb_push.proofs.push.picked_products.Given as goal

-- the rows so far
abbrev pub invariant-picks : goal.invariant-picks
invariant-picks g l =
    let tv = g.T.Scalar.value in
    record {
      of_domain : All (λ p. IsValueOf g.T.Scalar.domain (tv p.1)) l.products.items;
      pushed : as_entries tv l.products.items ≡ pushed (g.S.Side.makes g.O.Operator.op) (at_numbers l.lists.rows (as_entries tv (take l.i l.picks))) (decoded l.lists.entries);
    }
