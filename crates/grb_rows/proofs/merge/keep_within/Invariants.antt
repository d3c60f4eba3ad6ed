use Rattle.std.proofs.Common.{◌≡◌, ◌<◌, ◌≤◌, ◌++◌, ℕ, get_or, take, drop}
use Rattle.std.specs.List.{AllByRecursion}
use Rattle.grb_core.specs.declared.value.Value.{Value}
use Rattle.grb_core.specs.Contents.{is_cell_in}
use Rattle.grb_lists.specs.Cells.{cell_of}
use Rattle.grb_rows.proofs.Kept.{kept}
use Rattle.grb_rows.proofs.merge.keep_within.Given as goal

-- the entries from `from` on are within, and wait to be copied
abbrev pub invariant-loop-at : goal.invariant-loop-at
invariant-loop-at l = record {
  after : l.start ≤ l.from;
  order : l.from ≤ l.at;
  entries : l.new.entries ++ drop l.from (take l.at l.row.entries) ≡ l.fn.new.entries ++ kept (λ k. is_cell_in l.fn.dims.0 l.fn.dims.1 (cell_of k)) l.row.entries l.start l.at;
  above : l.from < l.end → (d : ℕ × Value) → AllByRecursion (λ e. e.0 < (get_or l.row.entries l.from d).0) l.new.entries;
  domain : l.new.domain ≡ l.row.domain;
  room : l.spare ≤ l.new.room;
}
