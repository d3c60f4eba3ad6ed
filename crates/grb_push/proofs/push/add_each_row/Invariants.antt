use Rattle.std.proofs.Common.{◌<◌, ◌≤◌, ℕ, length, get_or}
use Rattle.grb_kernels.specs.Typed.{first_entries}
use Rattle.grb_lists.specs.Cells.{decoded}
use Rattle.grb_sums.specs.Bits.{AreMarked}
use Rattle.grb_sums.specs.ColumnSums.{AreSums}
use Rattle.grb_push.specs.Pushes.{pushed}
use Rattle.grb_push.proofs.push.add_each_row.Given as goal

-- the rows so far: what the first n entries make, for each n that lies after their numbers, and not after those that are left
abbrev pub invariant-each : goal.invariant-each
invariant-each g l =
    let names = g.C.Columns.names l.columns in
    record {
      marked : AreMarked (length names) l.words l.sums;
      added : (n : ℕ) → n ≤ length l.u.indices.now → ((q : ℕ) → q < l.k → get_or l.lists.rows q 0 < n) → ((q : ℕ) → l.k ≤ q → q < length l.lists.rows → n ≤ get_or l.lists.rows q 0)
          → AreSums g.T.Scalar.value g.M.MonoidOver.monoid names
          (pushed (g.S.Side.makes g.O.Operator.op) (first_entries g.T.Scalar.value n l.u.indices.now l.u.values.now) (decoded l.lists.entries)) l.words l.sums;
    }
