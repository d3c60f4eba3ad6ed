use Rattle.std.proofs.Common.{◌≡◌, ◌-◌, length}
use Rattle.std.specs.List.{All}
use Rattle.grb_reader.proofs.Prelude.{IsOf, Learns}
use Rattle.grb_reader.proofs.reader.Reader.catch_up.Given as goal

abbrev pub invariant-unshown : goal.invariant-unshown
invariant-unshown l = record {
  order : l.self.order ≡ l.initial.self.order;
  of : All (IsOf l.records) l.self.shown;
  view : l.self.view ≡ l.initial.self.view;
  steps : l.self.steps ≡ l.initial.self.steps;
  made : l.self.made ≡ l.initial.self.made;
  learns : Learns l.initial.self l.self;
}

abbrev pub decreases-unshown : goal.decreases-unshown
decreases-unshown l = length l.self.view.words - length l.self.shown
