use Rattle.std.proofs.Common.{◌≡◌, ◌≤◌, length, map, take}
use Rattle.grb_editions.proofs.edition.begin_with.Given as goal

abbrev pub invariant-calls : goal.invariant-calls
invariant-calls l = record {
  fits : length l.first ≤ length l.calls;
  same : take l.at (map (λ c. c.now) l.calls) ≡ take l.at l.first;
}
