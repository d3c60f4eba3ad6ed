-- inside: no public contract names it. One row of a Kronecker product (own).
use Rattle.std.specs.Prelude.{ℕ, ◌+◌, ◌*◌, ◌++◌, [], ◌∷◌, map}
use Rattle.grb_core.specs.declared.value.Value.{Value}
use Rattle.grb_core.specs.Entries.{VectorEntries}

-- a value with each entry of a row, so many columns further on
abbrev pub shifted : (Value → Value → Value) → ℕ → Value → VectorEntries → VectorEntries
shifted f base v y = map (λ e. (base + e.0, f v e.1)) y

-- each entry of a row with each of another, which has c columns
abbrev pub crossed : (Value → Value → Value) → ℕ → VectorEntries → VectorEntries → VectorEntries
crossed f c [] y = []
crossed f c (e ∷ x) y = shifted f (e.0 * c) e.1 y ++ crossed f c x y
