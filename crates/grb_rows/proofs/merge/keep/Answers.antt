use Rattle.grb_rows.proofs.merge.keep.Goals as goal

pub append-requires-clause-above : goal.append-requires-clause-above
append-requires-clause-above c = c.requires.above c.if-start-end.true
