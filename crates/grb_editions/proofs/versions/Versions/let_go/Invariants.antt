use Rattle.grb_editions.proofs.versions.Versions.let_go.Given as goal

abbrev pub invariant-slots : goal.invariant-slots
invariant-slots l = Unit
