-- believed: Values with marks as a list of entries (own): what a row of sums lays open.
use Rattle.std.specs.Prelude.{ℕ, ◌+◌, Bool, List, [], ◌∷◌}
use Rattle.grb_core.specs.declared.value.Value.{Value}
use Rattle.grb_core.specs.Entries.{VectorEntries, before_entries}
use Rattle.grb_kernels.specs.Typed.{kept}

module _ {V : Type 0} (value : V → Value) (name : ℕ → ℕ) where
  -- the marked values, each at the name of its place; the first has the place j
  abbrev pub marked_from : ℕ → List Bool → List V → VectorEntries
  marked_from j [] vs = []
  marked_from j (m ∷ ms) [] = []
  marked_from j (m ∷ ms) (v ∷ vs) = before_entries (name j) (kept (value v) m) (marked_from (j + 1) ms vs)
