-- inside: no public contract names it. Values by a function (own).
use Rattle.std.specs.Prelude.{List, map}
use Rattle.grb_core.specs.declared.value.Value.{Value}

-- the same places, each value by g
abbrev pub with_values : {K : Type 0} → (Value → Value) → List (K × Value) → List (K × Value)
with_values g m = map (λ e. (e.0, g e.1)) m
