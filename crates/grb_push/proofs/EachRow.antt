-- A vector that stores a value at each index: what it makes of the rows of a matrix, row by row, where others store nothing.
use Rattle.std.proofs.Common.{◌≡◌, ℕ, zero, suc, ◌+◌, ◌-◌, ◌<◌, ◌≤◌, List, [], ◌∷◌, ◌++◌, length, get_or, refl, sym, ap, subst, ◌∙◌, arith, inl, inr}
use Rattle.std.specs.Prelude.{IsTrue, map}
use Rattle.std.specs.Ordering.{nat_cmp}
use Rattle.std.specs.FinMap.{is_sorted}
use Rattle.std.proofs.lemmas.Bool.{cases_order}
use Rattle.grb_core.specs.declared.value.Value.{Value}
use Rattle.grb_core.specs.Entries.{VectorEntries, MatrixEntries}
use Rattle.grb_core.specs.Results.{row_of}
use Rattle.grb_kernels.specs.Typed.{entries_of, first_entries}
use Rattle.grb_kernels.proofs.Lists.{first-read}
use Rattle.grb_ewise.specs.Ranks.{Rise}
use Rattle.grb_sums.specs.ColumnSums.{with_values}
use Rattle.grb_sums.proofs.Rising.{indices_rise}
use Rattle.grb_sums.proofs.SumsByColumn.{stands}
use Rattle.grb_push.specs.Pushes.{pushed}
use Rattle.grb_push.proofs.Pushing.{pushed-more, pushed-nothing}

-- numbers that rise are no less than their places
at_least : (cs : List ℕ) (i : ℕ) → Rise cs → i < length cs → i ≤ get_or cs i 0
at_least cs zero rise h = omega arith
at_least cs (suc i) rise h =
    let before = at_least cs i rise (omega arith) in
    let above = rise i (suc i) (omega arith) h in
    omega (arith, before, above)

-- and one is less than another by as much as their places, or more
apart_by : (cs : List ℕ) (i d : ℕ) → Rise cs → d + i < length cs → get_or cs i 0 + d ≤ get_or cs (d + i) 0
apart_by cs i zero rise h =
    let same : 0 + i ≡ i = omega arith in
    let here = ap (λ j. get_or cs j 0) same in
    omega (arith, here)
apart_by cs i (suc d) rise h =
    let same : suc d + i ≡ suc (d + i) = omega arith in
    let here = ap (λ j. get_or cs j 0) same in
    let before = apart_by cs i d rise (omega (arith, h)) in
    let above = rise (d + i) (suc (d + i)) (omega arith) (omega (arith, h)) in
    omega (arith, before, above, here)

-- so where the last is no more than its place, each is its place
pub own_place : (cs : List ℕ) → Rise cs → get_or cs (length cs - 1) 0 + 1 ≡ length cs → (i : ℕ) → i < length cs → get_or cs i 0 ≡ i
own_place cs rise last i h =
    let d : ℕ = length cs - 1 - i in
    let e : d + i ≡ length cs - 1 = omega (arith, h) in
    let least = at_least cs i rise h in
    let most : get_or cs i 0 + d ≤ get_or cs (length cs - 1) 0 = subst (λ j. get_or cs i 0 + d ≤ get_or cs j 0) e (apart_by cs i d rise (omega (arith, h))) in
    omega (arith, least, most, last, h)

-- a later number is no less
pub not_less : (cs : List ℕ) (k q : ℕ) → Rise cs → k ≤ q → q < length cs → get_or cs k 0 ≤ get_or cs q 0
not_less cs k q rise l h =
    elim (cases_order k q) [
      | inl same ↦ let e = ap (λ j. get_or cs j 0) same in omega (arith, e)
      | inr (inl less) ↦ let r = rise k q less h in omega (arith, r)
      | inr (inr more) ↦ absurd (omega (arith, more, l))
    ]

-- a number after one of them, and before those that come later, is none of them
pub between_none : (cs : List ℕ) (k n i : ℕ) → Rise cs → k < length cs → ((q : ℕ) → k + 1 ≤ q → q < length cs → n ≤ get_or cs q 0) → get_or cs k 0 < i → i < n
    → (q : ℕ) → q < length cs → get_or cs q 0 ≡ i → ⊥
between_none cs k n i rise inside above after before q l e =
    elim (cases_order q k) [
      | inl same ↦ let s = ap (λ j. get_or cs j 0) same in omega (arith, s, e, after)
      | inr (inl less) ↦ let r = rise q k less inside in omega (arith, r, e, after)
      | inr (inr more) ↦ let r = above q (omega (arith, more)) l in omega (arith, r, e, before)
    ]

module _ {V : Type 0} (tv : V → Value) where
  indices_of : (cs : List ℕ) (vs : List V) → length cs ≡ length vs → cs ≡ map (λ e. e.0) (entries_of tv cs vs)
  indices_of [] vs e = refl
  indices_of (c ∷ cs) [] e = absurd (omega (arith, e))
  indices_of (c ∷ cs) (v ∷ vs) e = ap (λ (t : List ℕ). c ∷ t) (indices_of cs vs (omega (arith, e)))

  -- the indices of entries in order rise
  pub entries_rise : (cs : List ℕ) (vs : List V) → length cs ≡ length vs → IsTrue (is_sorted nat_cmp (entries_of tv cs vs)) → Rise cs
  entries_rise cs vs e h = indices_rise (entries_of tv cs vs) cs h (indices_of cs vs e)

module _ {V : Type 0} (tv : V → Value) (f : Value → Value → Value) (a : MatrixEntries) (cs : List ℕ) (vs : List V) (own : (i : ℕ) → i < length cs → get_or cs i 0 ≡ i) (same : length cs ≡ length vs) where
  pushed_by : (m d : ℕ) → d + m ≤ length cs → ((i : ℕ) → m ≤ i → i < d + m → row_of i a ≡ []) → pushed f (first_entries tv (d + m) cs vs) a ≡ pushed f (first_entries tv m cs vs) a
  pushed_by m zero le none =
      let same : 0 + m ≡ m = omega arith in
      ap (λ n. pushed f (first_entries tv n cs vs) a) same
  pushed_by m (suc d) le none =
      let i : ℕ = d + m in
      let inside : i < length cs = omega (arith, le) in
      let more : suc d + m ≡ i + 1 = omega arith in
      let here = stands vs i (omega (arith, inside, same)) in
      ap (λ n. pushed f (first_entries tv n cs vs) a) more
      ∙ ap (λ (e : VectorEntries). pushed f e a) (first-read tv cs vs i here.0 inside same here.1)
      ∙ pushed-nothing f (first_entries tv i cs vs) (get_or cs i 0) (tv here.0) a (ap (λ j. row_of j a) (own i inside) ∙ none i (omega arith) (omega arith))
      ∙ pushed_by m d (omega (arith, le)) (λ j p q. none j p (omega (arith, q)))

  -- rows that store nothing
  pub pushed-between : (m n : ℕ) → m ≤ n → n ≤ length cs → ((i : ℕ) → m ≤ i → i < n → row_of i a ≡ []) → pushed f (first_entries tv n cs vs) a ≡ pushed f (first_entries tv m cs vs) a
  pushed-between m n up le none =
      let e : (n - m) + m ≡ n = omega (arith, up) in
      ap (λ k. pushed f (first_entries tv k cs vs) a) (sym e)
      ∙ pushed_by m (n - m) (omega (arith, le, e)) (λ i p q. none i p (omega (arith, q, e)))

  -- one more row, and rows after it that store nothing
  pub pushed-row : (r n : ℕ) (x : V) → r < n → n ≤ length cs → x ≡ get_or vs r x → ((i : ℕ) → r < i → i < n → row_of i a ≡ [])
      → pushed f (first_entries tv n cs vs) a ≡ pushed f (first_entries tv r cs vs) a ++ with_values (f (tv x)) (row_of r a)
  pushed-row r n x below le is none =
      let inside : r < length cs = omega (arith, below, le) in
      pushed-between (r + 1) n (omega (arith, below)) le (λ i p q. none i (omega (arith, p)) q)
      ∙ ap (λ (e : VectorEntries). pushed f e a) (first-read tv cs vs r x inside same is)
      ∙ pushed-more f (first_entries tv r cs vs) (get_or cs r 0) (tv x) a
      ∙ ap (λ j. pushed f (first_entries tv r cs vs) a ++ with_values (f (tv x)) (row_of j a)) (own r inside)
