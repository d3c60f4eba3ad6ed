use Rattle.std.proofs.Common.{◌+◌, ◌≤◌, drop, map, take}
use Rattle.grb_call.specs.Store.{Store}
use Rattle.grb_call.specs.History.{after_all}
use Rattle.grb_slices.specs.Content.{content_at}
use Rattle.grb_slices.specs.Slice.{Wants, entries, evaluated, sliced}
use Rattle.grb_replay.specs.Followed.{GoesOn}
use Rattle.grb_replay.proofs.Going.{HasCome}
use Rattle.grb_replay.proofs.making.make_chosen.Given as goal

abbrev pub invariant-places : goal.invariant-places
invariant-places l = record {
  room : l.initial.state.room ≤ l.state.room + l.at;
  come : (w : Wants) (whole : Store) → GoesOn w whole (map (λ c. c.now) l.calls) l.targets l.chosen l.initial.state.store →
      HasCome w (evaluated (content_at l.initial.state.store) (sliced w (entries l.targets (map (λ c. c.now) l.calls))).elements) (drop l.at l.targets) (drop l.at (map (λ c. c.now) l.calls)) l.state.store;
  goes : (w : Wants) (whole : Store) → GoesOn w whole (map (λ c. c.now) l.calls) l.targets l.chosen l.initial.state.store →
      GoesOn w (after_all whole (take l.at (map (λ c. c.now) l.calls))) (drop l.at (map (λ c. c.now) l.calls)) (drop l.at l.targets) (drop l.at l.chosen) l.state.store;
}
