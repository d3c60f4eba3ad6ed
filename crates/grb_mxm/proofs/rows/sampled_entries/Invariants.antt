use Rattle.grb_mxm.proofs.rows.sampled_entries.Given as goal

-- between rows nothing lies open
abbrev pub invariant-sampled : goal.invariant-sampled
invariant-sampled g l = g.R.RowMaker.ready l.maker l.work
