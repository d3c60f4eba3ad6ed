use Rattle.std.proofs.Common.{◌≡◌, ◌-◌, length}
use Rattle.std.specs.List.{All}
use Rattle.grb_reader.proofs.Prelude.{room_of, IsOf, Counts, Learns}
use Rattle.grb_reader.proofs.reader.Reader.learn.Given as goal

abbrev pub invariant-words : goal.invariant-words
invariant-words l = record {
  order : l.self.order ≡ l.initial.self.order;
  of : All (IsOf l.records) l.self.shown;
  looks : l.self.view.looks ≡ l.initial.self.view.looks;
  learns : Learns l.initial.self l.self;
  made : l.self.made ≡ l.initial.self.made;
  counts : Counts l.initial.self l.self;
}

abbrev pub decreases-words : goal.decreases-words
decreases-words l = room_of l.order - length l.self.view.words
