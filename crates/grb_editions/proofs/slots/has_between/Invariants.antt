use Rattle.grb_editions.proofs.slots.has_between.Given as goal

abbrev pub invariant-slots : goal.invariant-slots
invariant-slots l = Unit
