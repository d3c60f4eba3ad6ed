-- Indices of tuples that are below 2^32.
use Rattle.std.proofs.Common.{ℕ, ◌<◌, List, [], ◌∷◌}
use Rattle.std.specs.Prelude.{All}
use Rattle.std.specs.List.{AllByRecursion}
use Rattle.std.proofs.lemmas.List.Elements.{All-from_recursion, recursion_from_All}
use Rattle.grb_core.specs.declared.value.Value.{Value}
use Rattle.grb_sparse.specs.Arrays.{paired}

below_each : (is : List ℕ) (vs : List Value) → AllByRecursion (λ i. i < 4294967296) is → AllByRecursion (λ e. e.0 < 4294967296) (paired is vs)
below_each [] vs w = tt
below_each (i ∷ is) [] w = tt
below_each (i ∷ is) (v ∷ vs) w = (w.0, below_each is vs w.1)

pub paired-below : (is : List ℕ) (vs : List Value) → All (λ i. i < 4294967296) is → All (λ e. e.0 < 4294967296) (paired is vs)
paired-below is vs w = All-from_recursion (λ (e : ℕ × Value). e.0 < 4294967296) (paired is vs) (below_each is vs (recursion_from_All (λ i. i < 4294967296) is w))
