-- inside: no public contract names it. Sums of what the entries of a matrix add, from one place on (own).
use Rattle.std.specs.Prelude.{◌≡◌, ◌≤◌, ◌+◌, ℕ, List, map, take, drop, slice_index_or, Option, Some, None}
use Rattle.std.specs.List.{AllByRecursion}
use Rattle.grb_core.specs.declared.value.Value.{Value}
use Rattle.grb_core.specs.declared.operator.BinaryOp.{BinaryOp}
use Rattle.grb_core.specs.declared.monoid.Monoid.{Monoid}
use Rattle.grb_core.specs.Value.{IsValueOf}
use Rattle.grb_core.specs.Operator.{value_of_op}
use Rattle.grb_core.specs.Monoid.{monoid_domain, identity_of}
use Rattle.grb_core.specs.Fold.{fold_of}
use Rattle.grb_core.specs.Written.{both_values}
use Rattle.grb_kernels.specs.Typed.{entries_of}

-- what the entries from one place up to another add
abbrev pub added : {V : Type 0} → (V → Value) → (ℕ × Value → Value) → List ℕ → List V → ℕ → ℕ → List Value
added value adds cs vs s e = map adds (entries_of value (drop s (take e cs)) (drop s (take e vs)))

-- the j-th of a list is the sum of what the j entries from a place on add, for the entries up to another place
pub record AreSums {V : Type 0} (m : Monoid) (value : V → Value) (adds : ℕ × Value → Value) (cs : List ℕ) (vs : List V) (from upto : ℕ) (sums : List V) : Type 0 where
  pub of_domain : AllByRecursion (IsValueOf (monoid_domain m)) (added value adds cs vs from upto)
  pub are : (j : ℕ) (s : V) → from + j ≤ upto → s ≡ slice_index_or sums j s → value s ≡ fold_of m (added value adds cs vs from (from + j))

-- a value is the sum of what the entries from one place up to another add
pub record IsRowSum {V : Type 0} (m : Monoid) (value : V → Value) (adds : ℕ × Value → Value) (cs : List ℕ) (vs : List V) (s e : ℕ) (sum : Value) : Type 0 where
  pub is_sum : sum ≡ fold_of m (added value adds cs vs s e)
  pub of_domain : AllByRecursion (IsValueOf (monoid_domain m)) (added value adds cs vs s e)

-- a value, or else the one that changes no sum
abbrev pub or_identity : Monoid → Option Value → Value
or_identity m None = identity_of m
or_identity m (Some v) = v

-- what an entry of a row adds to its product with `y`, which is given index by index
abbrev pub product_or : Monoid → BinaryOp → (ℕ → Option Value) → ℕ × Value → Value
product_or m op y e = or_identity m (both_values (value_of_op op) (Some e.1) (y e.0))
