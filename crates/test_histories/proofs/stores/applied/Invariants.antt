use Rattle.std.proofs.Common.{◌+◌, ◌≤◌, length}
use Rattle.test_histories.proofs.stores.applied.Given as goal

abbrev pub invariant-calls : goal.invariant-calls
invariant-calls l = length l.calls ≤ l.state.room + l.at
