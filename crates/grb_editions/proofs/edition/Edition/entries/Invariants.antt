use Rattle.grb_editions.proofs.edition.Edition.entries.Given as goal

abbrev pub invariant-results : goal.invariant-results
invariant-results l = Unit
