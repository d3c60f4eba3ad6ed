-- believed: Which places of a result are made, where a mask lets the others be left out (own).
use Rattle.std.specs.Prelude.{◌≡◌, ◌⊎◌, ℕ, Bool, true, false, not, cond, List, [], ◌∷◌}
use Rattle.std.specs.Ordering.{nat_cmp, eq_by_cmp}
use Rattle.grb_core.specs.Entries.{VectorEntries, restricted}

-- whether a number stands in a list
abbrev pub is_among : ℕ → List ℕ → Bool
is_among q [] = false
is_among q (k ∷ ks) = cond (eq_by_cmp nat_cmp q k) true (is_among q ks)

-- whether a place is wanted: one that stands among these, or any other
abbrev pub is_wanted : Bool → List ℕ → ℕ → Bool
is_wanted among names q = cond among (is_among q names) (not (is_among q names))

-- what a result has at the places that are wanted; or perhaps all of it
abbrev pub IsMade : Bool → (ℕ → Bool) → VectorEntries → VectorEntries → Type 0
IsMade true wanted total made = (made ≡ total) ⊎ (made ≡ restricted wanted total)
IsMade false wanted total made = made ≡ restricted wanted total
