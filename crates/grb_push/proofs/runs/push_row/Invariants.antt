use Rattle.std.proofs.Common.{◌≡◌, ◌+◌, ◌≤◌, ◌++◌, length, All}
use Rattle.std.specs.Vec.{vec_len, vec_capacity}
use Rattle.grb_core.specs.Value.{IsValueOf}
use Rattle.grb_kernels.specs.Typed.{first_entries}
use Rattle.grb_sums.specs.ColumnSums.{as_entries, with_values}
use Rattle.grb_push.proofs.runs.push_row.Given as goal

-- the entries of the row so far
abbrev pub invariant-row : goal.invariant-row
invariant-row g l =
    let tv = g.T.Scalar.value in
    record {
      of_domain : All (λ p. IsValueOf g.T.Scalar.domain (tv p.1)) l.products.items;
      added : as_entries tv l.products.items ≡ as_entries tv l.fn.products.items ++ with_values (g.R.Term.gives l.term) (first_entries tv l.i l.columns l.values);
      len : vec_len l.products ≡ vec_len l.fn.products + l.i;
      room : vec_len l.fn.products + length l.columns ≤ vec_capacity l.products;
    }
