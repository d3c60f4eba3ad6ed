-- believed: The products of a row with a vector, one after another (own): what the fold of a row is made of.
use Rattle.std.specs.Prelude.{ℕ, Bool, false, ◌||◌, List, [], ◌∷◌, ◌++◌, Option, Some, None, is_some}
use Rattle.grb_core.specs.declared.value.Value.{Value}
use Rattle.grb_core.specs.declared.operator.BinaryOp.{BinaryOp}
use Rattle.grb_core.specs.Operator.{value_of_op}
use Rattle.grb_core.specs.Entries.{VectorEntries}
use Rattle.grb_core.specs.Written.{both_values}

-- a value as a list
abbrev pub list_of : Option Value → List Value
list_of None = []
list_of (Some v) = v ∷ []

-- op(x(j), y(j)) for the entries of x at which y has a value, where `y` is given index by index
abbrev pub products : BinaryOp → (ℕ → Option Value) → VectorEntries → List Value
products op y [] = []
products op y (e ∷ es) = list_of (both_values (value_of_op op) (Some e.1) (y e.0)) ++ products op y es

-- whether `y`, which is given index by index, has a value at one of these indices
abbrev pub is_any : (ℕ → Option Value) → List ℕ → Bool
is_any y [] = false
is_any y (j ∷ js) = is_some (y j) || is_any y js
