use Rattle.grb_editions.proofs.versions.Versions.entries.Given as goal

abbrev pub invariant-slots : goal.invariant-slots
invariant-slots l = Unit
