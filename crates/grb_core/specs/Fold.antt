-- believed: What a monoid makes of several values: GraphBLAS C API 2.0, "Monoids", and the `dup` of "build".
use Rattle.std.specs.Prelude.{List, [], ◌∷◌, Option, Some, None}
use Rattle.grb_core.specs.declared.value.Value.{Value}
use Rattle.grb_core.specs.declared.monoid.Monoid.{Monoid}
use Rattle.grb_core.specs.Operator.{value_of_op}
use Rattle.grb_core.specs.Monoid.{monoid_op, identity_of}

-- the values combined by the monoid, and its identity where there are none. By its laws every order gives the same
abbrev pub fold_of : Monoid → List Value → Value
fold_of m [] = identity_of m
fold_of m (v ∷ vs) = value_of_op (monoid_op m) v (fold_of m vs)

-- the same, and no value where there are none
abbrev pub fold_of_some : Monoid → List Value → Option Value
fold_of_some m [] = None
fold_of_some m (v ∷ vs) = Some (fold_of m (v ∷ vs))
