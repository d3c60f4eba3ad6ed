use Rattle.std.proofs.Common.{◌≡◌, ◌+◌, ◌/◌, ◌<◌, ◌≤◌, ℕ, length, take}
use Rattle.grb_lists.specs.Stored.{IsInRow}
use Rattle.grb_codes.specs.Arrays.{written}
use Rattle.grb_codes.proofs.written.write_rows.Given as goal

-- the rows of the entries so far are written; those up to the end of the row stand in it, and the one there in the next
abbrev pub invariant-entries : goal.invariant-entries
invariant-entries l = record {
  rows : l.array ≡ written (λ e. e.0 / 4294967296) (take l.at l.lists.entries) l.initial.array;
  among : l.k < length l.lists.rows;
  within : l.end ≤ length l.lists.entries;
  upto : l.at ≤ l.end;
  here : (p : ℕ) → l.at ≤ p → p < l.end → IsInRow l.lists l.k p;
  next : l.end < length l.lists.entries → IsInRow l.lists (l.k + 1) l.end;
}
