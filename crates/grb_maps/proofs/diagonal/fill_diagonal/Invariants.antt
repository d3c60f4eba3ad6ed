use Rattle.std.proofs.Common.{◌≡◌}
use Rattle.std.specs.Vec.{vec_len, vec_capacity}
use Rattle.grb_maps.proofs.Placing.{IsPlacing}
use Rattle.grb_maps.proofs.diagonal.fill_diagonal.Given as goal

-- the entries that are left have room
abbrev pub invariant-entries : goal.invariant-entries
invariant-entries g l = record {
  rows_len : vec_len l.rows ≡ l.at;
  starts_len : vec_len l.starts ≡ l.at;
  columns_len : vec_len l.columns ≡ l.at;
  values_len : vec_len l.values ≡ l.at;
  rows_capacity : vec_capacity l.rows ≡ vec_capacity l.fn.rows;
  starts_capacity : vec_capacity l.starts ≡ vec_capacity l.fn.starts;
  columns_capacity : vec_capacity l.columns ≡ vec_capacity l.fn.columns;
  values_capacity : vec_capacity l.values ≡ vec_capacity l.fn.values;
  placing : IsPlacing g.T.Scalar.value l.down l.up l.entries.indices.now l.entries.values.now l.at l.rows.items l.starts.items l.columns.items l.values.items;
}
