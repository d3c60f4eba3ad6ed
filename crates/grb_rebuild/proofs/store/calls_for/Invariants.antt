use Rattle.std.proofs.Common.{◌≡◌, ℕ, ◌++◌, ◌<◌}
use Rattle.std.specs.Prelude.{IfSome, take}
use Rattle.grb_core.specs.Contents.{IsMatrix, IsVector}
use Rattle.grb_call.specs.Shapes.{object_at}
use Rattle.grb_rebuild.specs.Rebuilt.{matrices_calls, vectors_calls}
use Rattle.grb_rebuild.proofs.store.calls_for.Given as goal

abbrev pub invariant-matrices : goal.invariant-matrices
invariant-matrices l = record {
  calls : l.calls.items ≡ matrices_calls 0 (take l.number l.state.store.matrices);
  whole : (k : ℕ) → k < l.number → IfSome (object_at l.state.store.matrices k) IsMatrix;
}

abbrev pub invariant-vectors : goal.invariant-vectors
invariant-vectors l = record {
  calls : l.calls.items ≡ l.initial.calls.items ++ vectors_calls 0 (take l.number l.state.store.vectors);
  whole : (k : ℕ) → k < l.number → IfSome (object_at l.state.store.vectors k) IsVector;
}
