use Rattle.std.proofs.Common.{◌<◌, ℕ, length, get_or, ◌++◌}
use Rattle.grb_ewise.specs.Rows.{flat_entries}
use Rattle.grb_mxm.specs.Rows.{rows_between}
use Rattle.grb_mxm.proofs.Making.{IsMaking}
use Rattle.grb_mxm.proofs.rows.make_rows.Given as goal

-- the rows so far are made after those that were there, all are below the last, and between rows nothing lies open
abbrev pub invariant-making : goal.invariant-making
invariant-making g l =
    let tv = g.T.Scalar.value in
    let there = l.fn.part.made in
    record {
      ready : g.R.RowMaker.ready l.maker l.work;
      making : IsMaking tv (flat_entries tv there.rows.items there.starts.items there.columns.items there.values.items ++ rows_between l.fn.part.from l.fn.part.upto (g.R.RowMaker.makes l.maker))
          l.numbers l.k l.made.rows.items l.made.starts.items l.made.columns.items l.made.values.items;
      below : (n : ℕ) → n < length l.made.rows.items → get_or l.made.rows.items n 0 < l.fn.part.upto;
    }
