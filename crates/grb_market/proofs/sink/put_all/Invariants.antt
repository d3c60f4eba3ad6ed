use Rattle.std.proofs.Common.{◌≡◌, ◌-◌, ◌≤◌, length, take}
use Rattle.grb_market.proofs.Prelude.{Appends}
use Rattle.grb_market.proofs.sink.put_all.Given as goal

abbrev pub invariant-loop-count : goal.invariant-loop-count
invariant-loop-count g l = record {
  within : l.count ≤ length l.bytes;
  taken : Appends (g.W.Sink.taken l.initial.sink) (g.W.Sink.taken l.sink) (take l.count l.bytes);
  failures : g.W.Sink.failures l.sink ≡ g.W.Sink.failures l.initial.sink;
}

abbrev pub decreases-loop-count : goal.decreases-loop-count
decreases-loop-count g l = length l.bytes - l.count
