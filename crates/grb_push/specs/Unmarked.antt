-- inside: no public contract names it. Sums by column of which no place is marked (own): at each column the fold of what was added to it.
use Rattle.std.specs.Prelude.{◌≡◌, ℕ, ◌<◌, List, length, slice_index_or}
use Rattle.std.specs.List.{AllByRecursion}
use Rattle.std.specs.Ordering.{nat_cmp}
use Rattle.grb_core.specs.declared.value.Value.{Value}
use Rattle.grb_core.specs.declared.monoid.Monoid.{Monoid}
use Rattle.grb_core.specs.Value.{IsValueOf}
use Rattle.grb_core.specs.Monoid.{monoid_domain}
use Rattle.grb_core.specs.Fold.{fold_of}
use Rattle.grb_core.specs.Entries.{VectorEntries, values_at}

-- at the place of each column lies the fold of what was added to it; so the identity lies where nothing was
pub record AreFolds {V : Type 0} (tv : V → Value) (m : Monoid) (added : VectorEntries) (sums : List V) : Type 0 where
  pub summed : (p : ℕ) (d : V) → p < length sums → tv (slice_index_or sums p d) ≡ fold_of m (values_at nat_cmp p added)
  pub of_domain : (p : ℕ) → p < length sums → AllByRecursion (IsValueOf (monoid_domain m)) (values_at nat_cmp p added)
