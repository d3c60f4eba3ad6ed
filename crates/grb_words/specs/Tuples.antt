-- believed: The tuples of a build, and why a list was not read (own).
use Rattle.std.specs.Prelude.{◌≡◌, ℕ, List, [], ◌∷◌, Option, Some, None}
use Rattle.std.specs.Option.{option_map}
use Rattle.grb_core.specs.declared.value.Value.{Value}
use Rattle.grb_core.specs.declared.value.Value.TheVariants as value
use Rattle.grb_words.specs.declared.fault.FaultKind.{FaultKind}
use Rattle.grb_words.specs.declared.fault.Unread.{Unread}
use Rattle.grb_words.specs.declared.fault.Unread.TheVariants as unread

-- the tuples of a vector: groups of an index and a value
abbrev pub vector_tuples : List Value → Option (List (ℕ × Value))
vector_tuples [] = Some []
vector_tuples (value.Uint64 i ∷ x ∷ more) = option_map (λ tuples. (i, x) ∷ tuples) (vector_tuples more)
vector_tuples _ = None

-- the tuples of a matrix: groups of a row, a column and a value
abbrev pub matrix_tuples : List Value → Option (List (ℕ × ℕ × Value))
matrix_tuples [] = Some []
matrix_tuples (value.Uint64 i ∷ value.Uint64 j ∷ x ∷ more) = option_map (λ tuples. (i, j, x) ∷ tuples) (matrix_tuples more)
matrix_tuples _ = None

-- there is no such list, and the fault is this; or memory was refused
abbrev pub IsWhyNot : {X : Type 0} → Option X → FaultKind → Unread → Type 0
IsWhyNot list fault (unread.Fault kind) = (list ≡ None) × (kind ≡ fault)
IsWhyNot list fault unread.OutOfMemory = Unit {0}
