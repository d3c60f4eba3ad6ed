use Rattle.std.proofs.Common.{◌≡◌, ◌≤◌, ◌<◌, ℕ, All, length, get_or}
use Rattle.std.specs.Vec.{vec_len, vec_capacity}
use Rattle.grb_core.specs.declared.value.Value.{Value}
use Rattle.grb_kernels.specs.Typed.{first_entries}
use Rattle.grb_lists.specs.Cells.{decoded}
use Rattle.grb_sums.specs.ColumnSums.{as_entries}
use Rattle.grb_push.specs.Pushes.{pushed, at_numbers}
use Rattle.grb_push.proofs.picks.pick_rows.Given as goal

-- the picks so far; the rows that are passed are below the indices that are left
abbrev pub invariant-entries : goal.invariant-entries
invariant-entries g l = record {
  len : vec_len l.picks ≤ l.i;
  room : length l.u.indices.now ≤ vec_capacity l.picks;
  from : l.from ≤ length l.rows;
  passed : (q : ℕ) → q < l.from → (j : ℕ) → l.i ≤ j → j < length l.u.indices.now → get_or l.rows q 0 < get_or l.u.indices.now j 0;
  within : All (λ p. p.0 < length l.rows) l.picks.items;
  picked : (f : Value → Value → Value) → pushed f (at_numbers l.lists.rows (as_entries g.T.Scalar.value l.picks.items)) (decoded l.lists.entries)
      ≡ pushed f (first_entries g.T.Scalar.value l.i l.u.indices.now l.u.values.now) (decoded l.lists.entries);
}
