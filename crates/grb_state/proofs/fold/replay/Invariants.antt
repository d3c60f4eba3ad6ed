use Rattle.std.proofs.Common.{◌≡◌, ◌+◌, ◌≤◌, length, map, take}
use Rattle.grb_call.specs.History.{after_all}
use Rattle.grb_state.proofs.fold.replay.Given as goal

abbrev pub invariant-calls : goal.invariant-calls
invariant-calls l = record {
  room : length l.calls ≤ l.replayed.room + l.at;
  store : l.replayed.store ≡ after_all l.state.store (take l.at (map (λ c. c.now) l.calls));
}
