use Rattle.std.proofs.Common.{◌≡◌, ◌++◌}
use Rattle.grb_rows.proofs.pending.listed.Given as goal

-- those that are listed, and those that are left
abbrev pub invariant-loop-index : goal.invariant-loop-index
invariant-loop-index l = l.all.items ++ l.index-iterator ≡ l.latest.entries
