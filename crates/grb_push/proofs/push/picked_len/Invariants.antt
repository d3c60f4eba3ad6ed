use Rattle.std.proofs.Common.{◌≡◌, ◌+◌, ◌-◌, ◌^◌, ◌≤◌, length, min, drop}
use Rattle.grb_lists.specs.Cells.{decoded}
use Rattle.grb_push.specs.Pushes.{columns_at}
use Rattle.grb_push.proofs.push.picked_len.Given as goal

-- the rows so far, and those that are left
abbrev pub invariant-rows : goal.invariant-rows
invariant-rows g l = record {
  count : l.count ≤ 2 ^ 64 - 1;
  so_far : min (l.count + length (columns_at l.lists.rows (drop l.i l.picks) (decoded l.lists.entries))) (2 ^ 64 - 1)
      ≡ min (length (columns_at l.lists.rows l.picks (decoded l.lists.entries))) (2 ^ 64 - 1);
}
