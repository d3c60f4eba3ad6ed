use Rattle.grb_c.proofs.bounded.Bounded.branch.Goals as goal

pub returns-clause-refused : goal.returns-clause-refused
returns-clause-refused c = c.branch_now.ensures.refused
