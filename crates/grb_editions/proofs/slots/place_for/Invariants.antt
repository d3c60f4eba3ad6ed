use Rattle.std.proofs.Common.{◌≡◌, ◌%◌, ◌<◌, ◌≤◌, IfSome, length}
use Rattle.counted_slot.specs.Counting.{readers}
use Rattle.grb_editions.proofs.slots.place_for.Given as goal

abbrev pub invariant-slots : goal.invariant-slots
invariant-slots l = record {
  least : l.shortest ≤ l.count;
  found : IfSome l.found (λ seen. (seen.at < length l.slots) × (seen.word % 4 < 3) × (readers seen.word ≡ 0) × (0 < l.count));
}
