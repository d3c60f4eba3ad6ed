use Rattle.std.proofs.Common.{◌≡◌, ◌≤◌, length, map, take, vec_capacity}
use Rattle.grb_pass.proofs.Prelude.{calls_of, known}
use Rattle.grb_pass.proofs.evaluated.exchange.lent_calls.Given as goal

abbrev pub invariant-calls : goal.invariant-calls
invariant-calls l = record {
  same : l.reader ≡ l.initial.reader;
  capacity : length (known l.initial.reader) ≤ vec_capacity l.calls;
  count : length l.calls.items ≡ l.at;
  calls : map (λ c. c.now) l.calls.items ≡ take l.at (calls_of (known l.initial.reader));
}
