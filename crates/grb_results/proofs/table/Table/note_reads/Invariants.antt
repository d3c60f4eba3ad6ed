use Rattle.std.proofs.Common.{◌≡◌}
use Rattle.grb_results.proofs.table.Table.note_reads.Given as goal

abbrev pub invariant-places : goal.invariant-places
invariant-places l = record {
  results : l.self.results ≡ l.initial.self.results;
  learnt : l.self.learnt ≡ l.initial.self.learnt;
  made : l.self.made ≡ l.initial.self.made;
  settled : l.self.settled ≡ l.initial.self.settled;
}
