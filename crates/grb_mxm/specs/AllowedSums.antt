-- inside: no public contract names it. Sums at the places that a mask allows (own): each place has a state.
use Rattle.std.specs.Prelude.{◌≡◌, ℕ, zero, suc, ◌<◌, ◌≤◌, Bool, true, false, nat_eq, List, [], ◌∷◌, All, length, map, slice_index, slice_index_or}
use Rattle.std.specs.Ordering.{nat_cmp}
use Rattle.std.specs.FinMap.{find}
use Rattle.grb_core.specs.declared.value.Value.{Value}
use Rattle.grb_core.specs.Entries.{VectorEntries}
use Rattle.grb_core.specs.Mask.{selects}
use Rattle.grb_ewise.specs.Ranks.{Rise}
use Rattle.grb_sums.specs.Naming.{name_in}
use Rattle.grb_sums.specs.Marks.{HoldAll, HoldUnmarked}

-- the state of a place: 0 where nothing is allowed, 1 where a sum is, 2 where there is one
abbrev pub is_allowed : ℕ → Bool
is_allowed zero = false
is_allowed (suc state) = true

abbrev pub is_summed : ℕ → Bool
is_summed state = nat_eq state 2

-- where a sum is allowed
abbrev pub allowed_of : List ℕ → List Bool
allowed_of [] = []
allowed_of (state ∷ states) = is_allowed state ∷ allowed_of states

-- where there is one
abbrev pub summed_of : List ℕ → List Bool
summed_of [] = []
summed_of (state ∷ states) = is_summed state ∷ summed_of states

-- each mark is at a place that is allowed
abbrev pub AreAmong : List Bool → List Bool → Type 0
AreAmong marks allowed = (p : ℕ) → slice_index_or marks p false ≡ true → slice_index_or allowed p false ≡ true

-- the place stands in the list
abbrev pub StandsIn : List ℕ → ℕ → Type 0
StandsIn places p = (k : ℕ) × (k < length places) × (slice_index places k ≡ p)

-- sums of this many places and their states, where nothing lies open and nothing is allowed
pub record IsUnmarked {V : Type 0} (value : V → Value) (v : Value) (count : ℕ) (sums : List V) (states : List ℕ) : Type 0 where
  pub long : length sums ≡ count
  pub states_long : length states ≡ count
  pub none : (p : ℕ) → slice_index states p ≡ 0
  pub clear : HoldAll value v sums

-- sums and their states
pub record AreAllowedSums {V : Type 0} (value : V → Value) (v : Value) (sums : List V) (states : List ℕ) : Type 0 where
  pub long : length states ≡ length sums
  pub clear : HoldUnmarked value v (summed_of states) sums

-- a sum is allowed at what a mask's row selects, by these places of its entries, and there is none yet
pub record AreSelected (names : List ℕ) (structure : Bool) (row : VectorEntries) (states places : List ℕ) : Type 0 where
  pub allowed : (p : ℕ) → p < length names → slice_index_or (allowed_of states) p false ≡ selects structure (find nat_cmp (name_in names p) row)
  pub none : (p : ℕ) → slice_index_or (summed_of states) p false ≡ false
  pub in_range : All (λ p. p < length names) places
  pub rising : Rise places
  pub named : map (name_in names) places ≡ map (λ e. e.0) row
  pub picked : (p : ℕ) → slice_index_or (allowed_of states) p false ≡ true → StandsIn places p
  pub few : length places ≤ length names
