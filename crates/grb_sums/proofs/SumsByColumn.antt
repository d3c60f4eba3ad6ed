-- Sums by column as entries are added, and as they are closed.
use Rattle.std.proofs.Common.{◌≡◌, ℕ, zero, suc, ◌*◌, ◌/◌, ◌%◌, ◌^◌, ◌<◌, ◌≤◌, Bool, true, false, cond, List, [], ◌∷◌, ◌++◌, length, get_or, set, inl, inr, refl, sym, ap, subst, ◌∙◌, arith, append_assoc}
use Rattle.std.specs.Prelude.{◌≢◌, Some, None, slice_index, IsTrue}
use Rattle.std.specs.List.{AllByRecursion}
use Rattle.std.specs.Ordering.{nat_cmp, eq_by_cmp}
use Rattle.std.specs.FinMap.{is_sorted}
use Rattle.std.proofs.Math.ListN.{replicate}
use Rattle.std.proofs.lemmas.Bool.{cases_eq, cases_order}
use Rattle.std.proofs.lemmas.Bool.Decides.{nat_tests}
use Rattle.std.proofs.lemmas.List.{get_or-set_same, get_or-set_other, get_or-replicate}
use Rattle.std.proofs.lemmas.List.Elements.{filter-append}
use lib.Dec.{T}
use Rattle.grb_core.specs.declared.value.Value.{Value}
use Rattle.grb_core.specs.declared.monoid.Monoid.{Monoid}
use Rattle.grb_core.specs.Value.{IsValueOf}
use Rattle.grb_core.specs.Operator.{value_of_op}
use Rattle.grb_core.specs.Monoid.{monoid_op, monoid_domain, identity_of}
use Rattle.grb_core.specs.Fold.{fold_of, fold_of_some}
use Rattle.grb_core.specs.Entries.{VectorEntries, restricted, values_at, values_of}
use Rattle.grb_kernels.proofs.Lists.{append_nil}
use Rattle.grb_ewise.specs.Ranks.{Rise}
use Rattle.grb_sums.specs.Bits.{is_marked, value_at, marked_values, AreMarked}
use Rattle.grb_sums.specs.ColumnSums.{AreSums, column_folds, with_values}
use Rattle.grb_sums.proofs.ColumnFolds.{other_column}
use Rattle.grb_semirings.proofs.Folds.{IsFolding, folded_more}
use Rattle.grb_sums.proofs.MarkedPlaces.{entries_at-made, is_sorted-entries_at, no_bit}
use Rattle.grb_semirings.proofs.Sums.{fold_of_some-more}

-- the values at a column, with one entry more
pub values_at-append : (q : ℕ) (xs ys : VectorEntries) → values_at nat_cmp q (xs ++ ys) ≡ values_at nat_cmp q xs ++ values_at nat_cmp q ys
values_at-append q xs ys = ap (λ (m : VectorEntries). values_of m) (filter-append (λ (e : ℕ × Value). eq_by_cmp nat_cmp q e.0) xs ys) ∙ values_of-append (restricted (λ l. eq_by_cmp nat_cmp q l) xs) (restricted (λ l. eq_by_cmp nat_cmp q l) ys)
  where
    values_of-append : (xs ys : VectorEntries) → values_of (xs ++ ys) ≡ values_of xs ++ values_of ys
    values_of-append [] ys = refl
    values_of-append (x ∷ xs) ys = ap (λ (t : List Value). x.1 ∷ t) (values_of-append xs ys)

same_column : (q k : ℕ) → k ≡ q → eq_by_cmp nat_cmp q k ≡ true
same_column q k h = grind (arith, nat_tests)

pub values_at-more : (q j : ℕ) (v : Value) (added : VectorEntries) → j ≡ q → values_at nat_cmp q (added ++ (j, v) ∷ []) ≡ values_at nat_cmp q added ++ v ∷ []
values_at-more q j v added e = values_at-append q added ((j, v) ∷ []) ∙ ap (λ b. values_at nat_cmp q added ++ values_of (cond b ((j, v) ∷ []) [])) (same_column q j e)

pub values_at-other : (q j : ℕ) (v : Value) (added : VectorEntries) → (j ≡ q → ⊥) → values_at nat_cmp q (added ++ (j, v) ∷ []) ≡ values_at nat_cmp q added
values_at-other q j v added n =
    values_at-append q added ((j, v) ∷ [])
    ∙ ap (λ b. values_at nat_cmp q added ++ values_of (cond b ((j, v) ∷ []) [])) (other_column q j n)
    ∙ append_nil (values_at nat_cmp q added)

-- two places have two names
apart : (names : List ℕ) → Rise names → (p at : ℕ) → p < length names → at < length names → p ≢ at → slice_index names p ≢ slice_index names at
apart names rise p at l h n e =
    elim (cases_order p at) [
      | inl same ↦ n same
      | inr (inl less) ↦ let r = rise p at less h in omega (arith, r, e)
      | inr (inr more) ↦ let r = rise at p more l in omega (arith, r, e)
    ]

-- words without bits mark nothing
pub nothing_marked : (k p : ℕ) → is_marked (replicate k 0) p ≡ false
nothing_marked k p = no_bit (get_or (replicate k 0) (p / 64) 0) (p % 64) (each_zero k (p / 64))
  where
    each_zero : (k w : ℕ) → ◌≡◌ {A = ℕ} (get_or (replicate k 0) w 0) 0
    each_zero zero w = refl
    each_zero (suc k) zero = refl
    each_zero (suc k) (suc w) = each_zero k w

module _ {V : Type 0} (tv : V → Value) where
  value-set_same : (ss : List V) (k : ℕ) (x : V) → k < length ss → value_at tv (set ss k x) k ≡ Some (tv x)
  value-set_same [] k x h = absurd (omega arith)
  value-set_same (s ∷ ss) zero x h = refl
  value-set_same (s ∷ ss) (suc k) x h = value-set_same ss k x (omega arith)

  value-set_other : (ss : List V) (k j : ℕ) (x : V) → (j ≡ k → ⊥) → value_at tv (set ss k x) j ≡ value_at tv ss j
  value-set_other [] k j x n = refl
  value-set_other (s ∷ ss) zero zero x n = absurd (n refl)
  value-set_other (s ∷ ss) zero (suc j) x n = refl
  value-set_other (s ∷ ss) (suc k) zero x n = refl
  value-set_other (s ∷ ss) (suc k) (suc j) x n = value-set_other ss k j x (λ e. n (ap suc e))

  pub value-read : (vs : List V) (j : ℕ) (x : V) → j < length vs → x ≡ get_or vs j x → Some (tv x) ≡ value_at tv vs j
  value-read [] j x h is = absurd (omega arith)
  value-read (v ∷ vs) zero x h is = ap (λ w. Some (tv w)) is
  value-read (v ∷ vs) (suc j) x h is = value-read vs j x (omega arith) is

module _ {V : Type 0} (tv : V → Value) (m : Monoid) (names : List ℕ) where
  -- nothing was added yet
  pub sums_none : (n k : ℕ) (identity : V) → length names ≡ n → tv identity ≡ identity_of m → AreSums tv m names [] (replicate k 0) (replicate n identity)
  sums_none n k identity long is = record {
    held = λ p l. ap (λ b. cond b (value_at tv (replicate n identity) p) None) (nothing_marked k p);
    summed = λ p d l. ap tv (get_or-replicate n p identity d (omega (arith, l, long))) ∙ is;
    of_domain = λ p l. tt;
  }

  module _ (added : VectorEntries) (words : List ℕ) (ss : List V) (j : ℕ) (v : Value) (was : AreSums tv m names added words ss) where
    abbrev more : VectorEntries
    more = added ++ (j, v) ∷ []

    other_place : (p : ℕ) → slice_index names p ≢ j → values_at nat_cmp (slice_index names p) more ≡ values_at nat_cmp (slice_index names p) added
    other_place p n = values_at-other (slice_index names p) j v added (λ e. n (sym e))

    -- an entry at a column that has no place
    pub sums_passed : ((p : ℕ) → p < length names → slice_index names p ≢ j) → AreSums tv m names more words ss
    sums_passed n = record {
      held = λ p l. was.held p l ∙ ap (fold_of_some m) (sym (other_place p (n p l)));
      summed = λ p d l. was.summed p d l ∙ ap (fold_of m) (sym (other_place p (n p l)));
      of_domain = λ p l. subst (AllByRecursion (IsValueOf (monoid_domain m))) (sym (other_place p (n p l))) (was.of_domain p l);
    }

    module _ (rise : Rise names) (words2 : List ℕ) (at : ℕ) (old new : V) (long : length ss ≡ length names) (here : is_marked words2 at ≡ true)
        (others : (p : ℕ) → p ≢ at → is_marked words2 p ≡ is_marked words p) (inside : at < length names) (named : slice_index names at ≡ j) (is : old ≡ get_or ss at old)
        (of : IsValueOf (monoid_domain m) v) (made : tv new ≡ value_of_op (monoid_op m) (tv old) v) where
      folding : IsFolding m (values_at nat_cmp (slice_index names at) more) (tv new)
      folding =
          subst (λ vs. IsFolding m vs (tv new)) (sym (values_at-more (slice_index names at) j v added (sym named)))
          (folded_more m (values_at nat_cmp (slice_index names at) added) (tv old) v (tv new) (record { is_sum = ap tv is ∙ was.summed at old inside; of_domain = was.of_domain at inside }) of made)

      some : Some (tv new) ≡ fold_of_some m (values_at nat_cmp (slice_index names at) more)
      some =
          ap Some folding.is_sum
          ∙ ap (λ vs. Some (fold_of m vs)) (values_at-more (slice_index names at) j v added (sym named))
          ∙ sym (fold_of_some-more m (values_at nat_cmp (slice_index names at) added) v [])
          ∙ ap (fold_of_some m) (sym (values_at-more (slice_index names at) j v added (sym named)))

      not_here : (p : ℕ) → p < length names → p ≢ at → slice_index names p ≢ j
      not_here p l n e = apart names rise p at l inside n (e ∙ sym named)

      -- an entry at the column of a place
      pub sums_more : AreSums tv m names more words2 (set ss at new)
      sums_more = record {
        held = λ p l. elim (cases_eq p at) [
          | inl e ↦ subst (λ q. cond (is_marked words2 q) (value_at tv (set ss at new) q) None ≡ fold_of_some m (values_at nat_cmp (slice_index names q) more)) (sym e)
              (ap (λ b. cond b (value_at tv (set ss at new) at) None) here ∙ value-set_same tv ss at new (omega (arith, inside, long)) ∙ some)
          | inr n ↦
              ap (λ b. cond b (value_at tv (set ss at new) p) None) (others p n)
              ∙ ap (λ w. cond (is_marked words p) w None) (value-set_other tv ss at p new n)
              ∙ was.held p l
              ∙ ap (fold_of_some m) (sym (other_place p (not_here p l n)))
        ];
        summed = λ p d l. elim (cases_eq p at) [
          | inl e ↦ subst (λ q. tv (get_or (set ss at new) q d) ≡ fold_of m (values_at nat_cmp (slice_index names q) more)) (sym e)
              (ap tv (get_or-set_same ss at new d (omega (arith, inside, long))) ∙ folding.is_sum)
          | inr n ↦ ap tv (get_or-set_other ss at p new d n) ∙ was.summed p d l ∙ ap (fold_of m) (sym (other_place p (not_here p l n)))
        ];
        of_domain = λ p l. elim (cases_eq p at) [
          | inl e ↦ subst (λ q. AllByRecursion (IsValueOf (monoid_domain m)) (values_at nat_cmp (slice_index names q) more)) (sym e) folding.of_domain
          | inr n ↦ subst (AllByRecursion (IsValueOf (monoid_domain m))) (sym (other_place p (not_here p l n))) (was.of_domain p l)
        ];
      }

-- what stands at a place of a list
pub stands : {V : Type 0} (vs : List V) (i : ℕ) → i < length vs → (x : V) × (x ≡ get_or vs i x)
stands [] i h = absurd (omega arith)
stands (v ∷ vs) zero h = (v, refl)
stands (v ∷ vs) (suc i) h = stands vs i (omega arith)

-- one more entry of those that are added
pub added_more : (f : Value → Value) (added first next : VectorEntries) (j : ℕ) (v : Value) → next ≡ first ++ (j, v) ∷ [] → (added ++ with_values f first) ++ (j, f v) ∷ [] ≡ added ++ with_values f next
added_more f added first next j v e =
    append_assoc added (with_values f first) ((j, f v) ∷ [])
    ∙ ap (λ (m : VectorEntries). added ++ m) (sym (with_values-append first) ∙ ap (with_values f) (sym e))
  where
    with_values-append : (m : VectorEntries) → with_values f (m ++ (j, v) ∷ []) ≡ with_values f m ++ (j, f v) ∷ []
    with_values-append [] = refl
    with_values-append (e ∷ m) = ap (λ (t : VectorEntries). (e.0, f e.1) ∷ t) (with_values-append m)

module _ {V : Type 0} (tv : V → Value) (names words : List ℕ) (ss : List V) where
  -- the sums at marked places are the folds
  pub marked_values-sums : (m : Monoid) (added : VectorEntries) → AreSums tv m names added words ss → marked_values tv names words ss ≡ column_folds m names added
  marked_values-sums m added are = entries_at-made names (is_marked words) (value_at tv ss) (λ j. fold_of_some m (values_at nat_cmp j added)) 0 (length names) (omega arith) are.held

  -- they are in order
  pub marked_values-rise : Rise names → IsTrue (is_sorted nat_cmp (marked_values tv names words ss))
  marked_values-rise rise = passes _ (is_sorted-entries_at (slice_index names) (is_marked words) (value_at tv ss) 0 (length names) (λ i j l h. rise i j l (omega (arith, h))))
    where
      passes : (b : Bool) → T b → IsTrue b
      passes true h = refl
      passes false h = absurd h

-- words without bits
pub marked_none : {V : Type 0} (n k : ℕ) (vs : List V) → k < 2 ^ 58 → n ≤ 64 * k → length vs ≡ n → AreMarked n (replicate k 0) vs
marked_none n k vs few enough long =
    let many = replicate-length {A = ℕ} k 0 in
    record {
      few = omega (arith, few, many);
      enough = omega (arith, enough, many);
      within = λ p e. absurd (differ (sym (nothing_marked k p) ∙ e));
      long = long;
    }
  where
    differ : false ≡ true → ⊥
    differ e = cc

    replicate-length : {A : Type 0} (n : ℕ) (x : A) → length (replicate n x) ≡ n
    replicate-length zero x = refl
    replicate-length (suc n) x = ap suc (replicate-length n x)

-- one more place is marked
pub marked_more : {V : Type 0} (n : ℕ) (words words2 : List ℕ) (vs vs2 : List V) (at : ℕ) → AreMarked n words vs → length words2 ≡ length words → length vs2 ≡ length vs → at < n
    → ((p : ℕ) → p ≢ at → is_marked words2 p ≡ is_marked words p) → AreMarked n words2 vs2
marked_more n words words2 vs vs2 at was same long inside others = record {
  few = omega (arith, was.few, same);
  enough = omega (arith, was.enough, same);
  within = λ p e. elim (cases_eq p at) [ inl is ↦ omega (arith, is, inside) | inr m ↦ was.within p (sym (others p m) ∙ e) ];
  long = omega (arith, long, was.long);
}
