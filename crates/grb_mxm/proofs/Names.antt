-- Columns that are their own names, and how many places rise below a number.
use Rattle.std.proofs.Common.{◌≡◌, ℕ, ◌+◌, ◌<◌, ◌≤◌, Bool, true, false, List, [], ◌∷◌, length, get_or, refl, ap, sym, ◌∙◌, arith}
use Rattle.std.specs.Prelude.{◌&&◌, map, IsTrue}
use Rattle.std.specs.List.{AllByRecursion}
use Rattle.std.specs.Ordering.{nat_cmp, is_lt}
use Rattle.std.specs.FinMap.{is_sorted}
use Rattle.std.specs.FinMap.Entries.{below_all}
use Rattle.std.proofs.lemmas.Bool.Decides.{nat_tests}
use lib.Dec.{T}
use Rattle.grb_core.specs.declared.value.Value.{Value}
use Rattle.grb_core.specs.Entries.{VectorEntries}
use Rattle.grb_kernels.specs.Typed.{entries_of}
use Rattle.grb_ewise.specs.Ranks.{Rise}
use Rattle.grb_sums.proofs.Rising.{indices_rise}
use Rattle.grb_sums.specs.Naming.{name_in, renamed}
use Rattle.grb_sums.proofs.Renamed.{holds, passes}

fst : (a b : Bool) → T (a && b) → T a
fst true b p = tt
fst false b p = absurd p

snd : (a b : Bool) → T (a && b) → T b
snd true b p = p
snd false b p = absurd p

-- each number below is its own name
pub own-named : (names : List ℕ) (n : ℕ) (columns : List ℕ) → ((p : ℕ) → p < n → get_or names p 0 ≡ p) → AllByRecursion (λ j. j < n) columns → map (name_in names) columns ≡ columns
own-named names n [] each h = refl
own-named names n (j ∷ columns) each h = ap (λ k. k ∷ map (name_in names) columns) (each j h.0) ∙ ap (λ (t : List ℕ). j ∷ t) (own-named names n columns each h.1)

less_of : (k l : ℕ) → T (is_lt (nat_cmp k l)) → k < l
less_of k l h = let e : is_lt (nat_cmp k l) ≡ true = passes _ h in grind (arith, nat_tests)

module _ {V : Type 0} (value : V → Value) where
  above : (k : ℕ) (rs : List ℕ) (vs : List V) → length rs ≡ length vs → T (below_all nat_cmp k (entries_of value rs vs)) → AllByRecursion (λ r. k + 1 ≤ r) rs
  above k [] vs e t = tt
  above k (r ∷ rs) [] e t = absurd (omega arith)
  above k (r ∷ rs) (v ∷ vs) e t = ((let l = less_of k r (fst _ _ t) in omega (arith, l)), above k rs vs (omega arith) (snd _ _ t))

  count : (k n : ℕ) (rs : List ℕ) (vs : List V) → length rs ≡ length vs → T (is_sorted nat_cmp (entries_of value rs vs)) → AllByRecursion (λ r. k ≤ r) rs → AllByRecursion (λ r. r < n) rs → k ≤ n → k + length rs ≤ n
  count k n [] vs e t lo hi l = omega (arith, l)
  count k n (r ∷ rs) [] e t lo hi l = absurd (omega arith)
  count k n (r ∷ rs) (v ∷ vs) e t lo hi l =
      let more : r + 1 + length rs ≤ n = count (r + 1) n rs vs (omega arith) (snd _ _ t) (above r rs vs (omega arith) (fst _ _ t)) hi.1 (let u = hi.0 in omega (arith, u)) in
      let from = lo.0 in
      omega (arith, more, from)

  all_from_zero : (rs : List ℕ) → AllByRecursion (λ r. 0 ≤ r) rs
  all_from_zero [] = tt
  all_from_zero (r ∷ rs) = (omega arith, all_from_zero rs)

  -- places that rise below a number are no more than it
  pub few-below : (n : ℕ) (rs : List ℕ) (vs : List V) → length rs ≡ length vs → IsTrue (is_sorted nat_cmp (entries_of value rs vs)) → AllByRecursion (λ r. r < n) rs → length rs ≤ n
  few-below n rs vs e s hi = let c = count 0 n rs vs e (holds _ s) (all_from_zero rs) hi (omega arith) in omega (arith, c)

  -- the names of the places of entries that are a row
  pub names_of_row : (name : ℕ → ℕ) (rs : List ℕ) (vs : List V) (row : VectorEntries) → length rs ≡ length vs → renamed name (entries_of value rs vs) ≡ row → map name rs ≡ map (λ e. e.0) row
  names_of_row name rs vs row e is = sym (first_of name rs vs e) ∙ ap (map (λ e. e.0)) is
    where
      first_of : (name : ℕ → ℕ) (rs : List ℕ) (vs : List V) → length rs ≡ length vs → map (λ e. e.0) (renamed name (entries_of value rs vs)) ≡ map name rs
      first_of name [] vs e = refl
      first_of name (r ∷ rs) [] e = absurd (omega arith)
      first_of name (r ∷ rs) (v ∷ vs) e = ap (λ (t : List ℕ). name r ∷ t) (first_of name rs vs (omega arith))

  -- the places of entries in order rise
  pub places-rise : (rs : List ℕ) (vs : List V) → length rs ≡ length vs → IsTrue (is_sorted nat_cmp (entries_of value rs vs)) → Rise rs
  places-rise rs vs e s = indices_rise (entries_of value rs vs) rs s (keys rs vs e)
    where
      keys : (rs : List ℕ) (vs : List V) → length rs ≡ length vs → rs ≡ map (λ e. e.0) (entries_of value rs vs)
      keys [] vs e = refl
      keys (r ∷ rs) [] e = absurd (omega arith)
      keys (r ∷ rs) (v ∷ vs) e = ap (λ (t : List ℕ). r ∷ t) (keys rs vs (omega arith))
