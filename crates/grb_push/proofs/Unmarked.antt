-- Sums by column of which no place is marked: as entries are added, and where none of them is the identity.
use Rattle.std.proofs.Common.{◌≡◌, ℕ, zero, suc, ◌+◌, ◌<◌, ◌≤◌, List, [], ◌∷◌, ◌++◌, length, get_or, set, take, inl, inr, refl, sym, ap, subst, ◌∙◌, arith}
use Rattle.std.specs.Prelude.{◌≢◌, Option, Some}
use Rattle.std.specs.List.{AllByRecursion}
use Rattle.std.specs.Ordering.{nat_cmp}
use Rattle.std.proofs.Math.ListN.{replicate}
use Rattle.std.proofs.lemmas.Bool.{cases_eq}
use Rattle.std.proofs.lemmas.List.{get_or-set_same, get_or-set_other, get_or-replicate, length-replicate, length-set}
use Rattle.grb_core.specs.declared.value.Value.{Value}
use Rattle.grb_core.specs.declared.monoid.Monoid.{Monoid}
use Rattle.grb_core.specs.Value.{IsValueOf}
use Rattle.grb_core.specs.Operator.{value_of_op}
use Rattle.grb_core.specs.Monoid.{monoid_op, monoid_domain, identity_of}
use Rattle.grb_core.specs.Fold.{fold_of, fold_of_some}
use Rattle.grb_core.specs.Entries.{VectorEntries, before_entries, map_on, values_at}
use Rattle.grb_kernels.specs.Typed.{entries_of}
use Rattle.grb_semirings.proofs.Folds.{IsFolding, folded_more}
use Rattle.grb_sums.specs.Bits.{value_at}
use Rattle.grb_sums.specs.ColumnSums.{column_folds, numbers_below, numbers_from}
use Rattle.grb_sums.proofs.SumsByColumn.{values_at-more, values_at-other}
use Rattle.grb_push.specs.Unmarked.{AreFolds}

pub length-take_le : (n : ℕ) (xs : List ℕ) → n ≤ length xs → length (take n xs) ≡ n
length-take_le zero xs h = refl
length-take_le (suc n) [] h = absurd (omega (arith, h))
length-take_le (suc n) (x ∷ xs) h = ap suc (length-take_le n xs (omega (arith, h)))

-- numbers that are their places are the numbers below
numbers-from : (j n : ℕ) (cs : List ℕ) → length cs ≡ n → ((p : ℕ) → p < n → get_or cs p 0 ≡ j + p) → cs ≡ numbers_from j n
numbers-from j zero [] e h = refl
numbers-from j zero (c ∷ cs) e h = absurd (omega (arith, e))
numbers-from j (suc n) [] e h = absurd (omega (arith, e))
numbers-from j (suc n) (c ∷ cs) e h =
    let here : c ≡ j = let z = h 0 (omega arith) in omega (arith, z) in
    ap (λ x. x ∷ cs) here ∙ ap (λ (t : List ℕ). j ∷ t) (numbers-from (suc j) n cs (omega (arith, e)) (λ p l. let z = h (suc p) (omega (arith, l)) in omega (arith, z)))

pub all_numbers : (n : ℕ) (cs : List ℕ) → length cs ≡ n → ((p : ℕ) → p < n → get_or cs p 0 ≡ p) → cs ≡ numbers_below n
all_numbers n cs e h = numbers-from 0 n cs e (λ p l. let same = h p l in omega (arith, same))

module _ {V : Type 0} (tv : V → Value) (m : Monoid) where
  -- nothing was added yet
  pub folds_none : (n : ℕ) (identity : V) → tv identity ≡ identity_of m → AreFolds tv m [] (replicate n identity)
  folds_none n identity is = record {
    summed = λ p d l. ap tv (get_or-replicate n p identity d (let long = length-replicate n identity in omega (arith, l, long))) ∙ is;
    of_domain = λ p l. tt;
  }

  -- one more entry
  module _ (added : VectorEntries) (ss : List V) (j : ℕ) (v : Value) (old new : V) (was : AreFolds tv m added ss) (inside : j < length ss) (is : old ≡ get_or ss j old)
      (of : IsValueOf (monoid_domain m) v) (made : tv new ≡ value_of_op (monoid_op m) (tv old) v) where
    abbrev more : VectorEntries
    more = added ++ (j, v) ∷ []

    folding : IsFolding m (values_at nat_cmp j more) (tv new)
    folding =
        subst (λ vs. IsFolding m vs (tv new)) (sym (values_at-more j j v added refl))
        (folded_more m (values_at nat_cmp j added) (tv old) v (tv new) (record { is_sum = ap tv is ∙ was.summed j old inside; of_domain = was.of_domain j inside }) of made)

    other_place : (p : ℕ) → p ≢ j → values_at nat_cmp p more ≡ values_at nat_cmp p added
    other_place p n = values_at-other p j v added (λ e. n (sym e))

    pub folds_more : AreFolds tv m more (set ss j new)
    folds_more = record {
      summed = λ p d l.
          let l2 : p < length ss = let long = length-set ss j new in omega (arith, l, long) in
          elim (cases_eq p j) [
            | inl e ↦ subst (λ q. tv (get_or (set ss j new) q d) ≡ fold_of m (values_at nat_cmp q more)) (sym e) (ap tv (get_or-set_same ss j new d inside) ∙ folding.is_sum)
            | inr n ↦ ap tv (get_or-set_other ss j p new d n) ∙ was.summed p d l2 ∙ ap (fold_of m) (sym (other_place p n))
          ];
      of_domain = λ p l.
          let l2 : p < length ss = let long = length-set ss j new in omega (arith, l, long) in
          elim (cases_eq p j) [
            | inl e ↦ subst (λ q. AllByRecursion (IsValueOf (monoid_domain m)) (values_at nat_cmp q more)) (sym e) folding.of_domain
            | inr n ↦ subst (AllByRecursion (IsValueOf (monoid_domain m))) (sym (other_place p n)) (was.of_domain p l2)
          ];
    }

  -- a fold that is not the identity is one of something
  some_fold : (vs : List Value) (sum : Value) → sum ≡ fold_of m vs → (sum ≡ identity_of m → ⊥) → Some sum ≡ fold_of_some m vs
  some_fold [] sum e n = absurd (n e)
  some_fold (v ∷ vs) sum e n = ap Some e

  at_place : (ss : List V) (p : ℕ) (d : V) → p < length ss → value_at tv ss p ≡ Some (tv (get_or ss p d))
  at_place [] p d l = absurd (omega (arith, l))
  at_place (s ∷ ss) zero d l = refl
  at_place (s ∷ ss) (suc p) d l = at_place ss p d (omega (arith, l))

  sums_from : (g : ℕ → Option Value) (j n : ℕ) (ss : List V) → length ss ≡ n → ((p : ℕ) (d : V) → p < n → Some (tv (get_or ss p d)) ≡ g (j + p)) → entries_of tv (numbers_from j n) ss ≡ map_on (numbers_from j n) g
  sums_from g j zero ss e h = refl
  sums_from g j (suc n) [] e h = absurd (omega (arith, e))
  sums_from g j (suc n) (s ∷ ss) e h =
      let here : j + 0 ≡ j = omega arith in
      ap (λ (t : VectorEntries). (j, tv s) ∷ t) (sums_from g (suc j) n ss (omega (arith, e)) (λ p d l. let next : j + suc p ≡ suc j + p = omega arith in h (suc p) d (omega (arith, l)) ∙ ap g next))
      ∙ ap (λ w. before_entries j w (map_on (numbers_from (suc j) n) g)) (h 0 s (omega arith) ∙ ap g here)

  -- where no sum is the identity, the list of sums is the folds of all columns
  pub all_folds : (n : ℕ) (cs : List ℕ) (added : VectorEntries) (ss : List V) → AreFolds tv m added ss → length ss ≡ n → cs ≡ numbers_below n
      → ((p : ℕ) → p < length ss → value_at tv ss p ≢ Some (identity_of m)) → entries_of tv cs ss ≡ column_folds m (numbers_below n) added
  all_folds n cs added ss are long same differ =
      ap (λ (js : List ℕ). entries_of tv js ss) same
      ∙ sums_from (λ j. fold_of_some m (values_at nat_cmp j added)) 0 n ss long
      (λ p d l.
      let inside : p < length ss = omega (arith, l, long) in
      let same : p ≡ 0 + p = omega arith in
      some_fold (values_at nat_cmp p added) (tv (get_or ss p d)) (are.summed p d inside) (λ e. differ p inside (at_place ss p d inside ∙ ap Some e))
      ∙ ap (λ j. fold_of_some m (values_at nat_cmp j added)) same)
