use Rattle.grb_scarcity.proofs.hoard.+deepen.Given as goal

abbrev pub decreases-deepen : goal.decreases-deepen
decreases-deepen l = l.times
