-- believed: Values that lie open, one for each index, with a mark where one is stored (own).
use Rattle.std.specs.Prelude.{ℕ, zero, suc, Bool, List, [], ◌∷◌, Option, None}
use Rattle.grb_core.specs.declared.value.Value.{Value}
use Rattle.grb_kernels.specs.Typed.{kept}

module _ {V : Type 0} (value : V → Value) where
  -- what a list of marks and a list of values hold at an index: nothing where there is no mark
  abbrev pub marked_at : List Bool → List V → ℕ → Option Value
  marked_at [] vs j = None
  marked_at (m ∷ ms) [] j = None
  marked_at (m ∷ ms) (v ∷ vs) zero = kept (value v) m
  marked_at (m ∷ ms) (v ∷ vs) (suc j) = marked_at ms vs j
