use Rattle.std.proofs.Common.{◌≡◌, ◌≤◌, ◌*◌}
use Rattle.std.specs.Prelude.{Some}
use Rattle.std.specs.Vec.{vec_len, vec_capacity}
use Rattle.grb_lists.specs.Cells.{decoded}
use Rattle.grb_core.specs.Maps.{kronecker_of}
use Rattle.grb_maps.proofs.Pushing.{IsMaking}
use Rattle.grb_kronecker.specs.Rows.{product_rows}
use Rattle.grb_kronecker.proofs.rows.fill_rows.Given as goal

abbrev pub invariant-each : goal.invariant-each
invariant-each g l = record {
  rows_len : vec_len l.rows ≤ l.t;
  starts_len : vec_len l.starts ≤ l.t;
  rows_capacity : vec_capacity l.rows ≡ vec_capacity l.fn.rows;
  starts_capacity : vec_capacity l.starts ≡ vec_capacity l.fn.starts;
  making : IsMaking g.T.Scalar.value (λ i j v. Some v)
      (kronecker_of g.O.Operator.op l.r l.c (l.fn.dims.0 * l.r) (l.fn.dims.1 * l.c) (decoded l.a.entries) (decoded l.b.entries))
      (product_rows l.r l.a.rows l.b.rows)
      l.t l.rows.items l.starts.items l.columns.items l.values.items;
}
