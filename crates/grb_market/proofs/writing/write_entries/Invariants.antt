use Rattle.std.proofs.Common.{◌≡◌, ◌^◌, ◌<◌, ◌++◌, All, string_bytes}
use Rattle.grb_market.proofs.Prelude.{entry_lines}
use Rattle.grb_market.proofs.WrittenLemmas.{SoFar}
use Rattle.grb_market.proofs.writing.write_entries.Given as goal

abbrev pub invariant-loop-place : goal.invariant-loop-place
invariant-loop-place g l = record {
  within : All (λ e. (e.0.0 < 2 ^ 32) × (e.0.1 < 2 ^ 32)) l.place-iterator;
  taken : SoFar (g.W.Sink.taken l.initial.sink) (g.W.Sink.taken l.sink) (string_bytes l.text ++ entry_lines l.place-iterator) (string_bytes l.fn.text ++ entry_lines l.fn.entries);
  failures : g.W.Sink.failures l.sink ≡ g.W.Sink.failures l.initial.sink;
}
