use Rattle.std.proofs.Common.{◌<◌, ◌≤◌, IfSome, length}
use Rattle.grb_editions.proofs.slots.longest.Given as goal

abbrev pub invariant-slots : goal.invariant-slots
invariant-slots l = record {
  least : l.longest ≤ l.most;
  found : IfSome l.found (λ seen. (seen.at < length l.slots) × (0 < l.most));
}
