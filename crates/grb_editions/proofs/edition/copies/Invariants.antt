use Rattle.std.proofs.Common.{◌≡◌, ◌≤◌, length, map, take, vec_capacity}
use Rattle.grb_editions.proofs.edition.copies.Given as goal

abbrev pub invariant-calls : goal.invariant-calls
invariant-calls l = record {
  capacity : length l.calls ≤ vec_capacity l.copies;
  copied : l.copies.items ≡ take l.at (map (λ c. c.now) l.calls);
}
