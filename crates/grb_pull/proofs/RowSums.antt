-- Sums of what the entries of a matrix add, from one place on, and what their differences are.
use Rattle.std.proofs.Common.{◌≡◌, ℕ, zero, suc, ◌+◌, ◌-◌, ◌<◌, ◌≤◌, Bool, true, false, cond, List, [], ◌∷◌, ◌++◌, length, take, drop, set, get_or, inl, inr, refl, sym, ap, subst, ◌∙◌, arith}
use Rattle.std.specs.Prelude.{Option, Some, None, map}
use Rattle.std.specs.List.{AllByRecursion}
use Rattle.std.proofs.lemmas.Bool.{cases_eq}
use Rattle.std.proofs.lemmas.List.{map-append, get_or-set_same, get_or-set_other}
use Rattle.grb_core.specs.declared.value.Value.{Value}
use Rattle.grb_core.specs.declared.operator.BinaryOp.{BinaryOp}
use Rattle.grb_core.specs.declared.monoid.Monoid.{Monoid}
use Rattle.grb_core.specs.Value.{IsValueOf}
use Rattle.grb_core.specs.Operator.{value_of_op}
use Rattle.grb_core.specs.Monoid.{monoid_op, monoid_domain, identity_of}
use Rattle.grb_core.specs.Fold.{fold_of, fold_of_some}
use Rattle.grb_core.specs.Entries.{VectorEntries, values_of}
use Rattle.grb_core.specs.Written.{both_values}
use Rattle.grb_core.proofs.MonoidLaws.{monoid_laws}
use Rattle.grb_core.proofs.Folds.{fold_of-append, fold_of-is}
use Rattle.grb_kernels.specs.Typed.{kept, entries_of}
use Rattle.grb_kernels.proofs.Lists.{values_of-entries}
use Rattle.grb_semirings.specs.Products.{list_of, products}
use Rattle.grb_pull.specs.RowSums.{added, AreSums, IsRowSum, or_identity, product_or}
use Rattle.grb_semirings.proofs.Folds.{IsFolding, folded_more, folded_parts, fold_of-one, all_before, all_later}
use Rattle.grb_folds.proofs.Spans.{nothing_between, span-join, span-one, long_span, some_fold}

entries-append : {V : Type 0} (value : V → Value) (cs ds : List ℕ) (vs ws : List V) → length cs ≡ length vs
    → entries_of value (cs ++ ds) (vs ++ ws) ≡ entries_of value cs vs ++ entries_of value ds ws
entries-append value [] ds [] ws e = refl
entries-append value [] ds (v ∷ vs) ws e = absurd (omega arith)
entries-append value (c ∷ cs) ds [] ws e = absurd (omega arith)
entries-append value (c ∷ cs) ds (v ∷ vs) ws e = ap (λ (t : VectorEntries). (c, value v) ∷ t) (entries-append value cs ds vs ws (omega arith))

one_place : (cs : List ℕ) (s : ℕ) → s < length cs → drop s (take (suc s) cs) ≡ get_or cs s 0 ∷ []
one_place [] s h = absurd (omega arith)
one_place (c ∷ cs) zero h = refl
one_place (c ∷ cs) (suc s) h = one_place cs s (omega arith)

module _ (m : Monoid) {V : Type 0} (value : V → Value) (adds : ℕ × Value → Value) (cs : List ℕ) (vs : List V) (same : length cs ≡ length vs) where
  -- a sum of what the entries between two places add
  abbrev pub IsAdded : ℕ → ℕ → Value → Type 0
  IsAdded s e sum = IsFolding m (added value adds cs vs s e) sum

  added-none : (s : ℕ) → added value adds cs vs s s ≡ []
  added-none s = ap (λ (t : List ℕ). map adds (entries_of value t (drop s (take s vs)))) (nothing_between s cs)

  added-one : (s : ℕ) (x : V) → s < length cs → x ≡ get_or vs s x → added value adds cs vs s (s + 1) ≡ adds (get_or cs s 0, value x) ∷ []
  added-one s x h at =
      ap (added value adds cs vs s) (let more : s + 1 ≡ suc s = omega arith in more)
      ∙ ap (λ (t : List ℕ). map adds (entries_of value t (drop s (take (suc s) vs)))) (one_place cs s h)
      ∙ ap (λ (t : List V). map adds (entries_of value (get_or cs s 0 ∷ []) t)) (span-one vs s x (omega (arith, h, same)) at)

  added-join : (s k e : ℕ) → s ≤ k → k ≤ e → e ≤ length cs → added value adds cs vs s k ++ added value adds cs vs k e ≡ added value adds cs vs s e
  added-join s k e l r w =
      let long = long_span cs s k l (omega (arith, r, w)) in
      let longs = long_span vs s k l (omega (arith, r, w, same)) in
      sym (map-append adds (entries_of value (drop s (take k cs)) (drop s (take k vs))) (entries_of value (drop k (take e cs)) (drop k (take e vs))))
      ∙ ap (map adds)
      (sym (entries-append value (drop s (take k cs)) (drop k (take e cs)) (drop s (take k vs)) (drop k (take e vs)) (omega (arith, long, longs)))
      ∙ ap (λ (t : List ℕ). entries_of value t (drop s (take k vs) ++ drop k (take e vs))) (span-join cs s k e l r)
      ∙ ap (entries_of value (drop s (take e cs))) (span-join vs s k e l r))

  pub none_added : (s : ℕ) → IsAdded s s (identity_of m)
  none_added s = subst (λ us. IsFolding m us (identity_of m)) (sym (added-none s)) (record { is_sum = refl; of_domain = tt })

  -- one more entry
  pub more_added : (s e : ℕ) (x : V) (sum v next : Value) → s ≤ e → e < length cs → x ≡ get_or vs e x → IsAdded s e sum → v ≡ adds (get_or cs e 0, value x) → IsValueOf (monoid_domain m) v
      → next ≡ value_of_op (monoid_op m) sum v → IsAdded s (e + 1) next
  more_added s e x sum v next l w at h is d made =
      subst (λ us. IsFolding m us next)
      (ap (λ us. added value adds cs vs s e ++ us) (ap (λ y. y ∷ []) is ∙ sym (added-one e x w at)) ∙ added-join s e (e + 1) l (omega arith) (omega (arith, w)))
      (folded_more m (added value adds cs vs s e) sum v next h d made)

  -- the sum of no entry, of one, and of those of two parts
  pub row_sum-none : (s : ℕ) (sum : Value) → sum ≡ identity_of m → IsRowSum m value adds cs vs s s sum
  row_sum-none s sum is = record { is_sum = is ∙ (none_added s).is_sum; of_domain = (none_added s).of_domain }

  pub row_sum-one : (s : ℕ) (x : V) (v : Value) → s < length cs → x ≡ get_or vs s x → v ≡ adds (get_or cs s 0, value x) → IsValueOf (monoid_domain m) v → IsRowSum m value adds cs vs s (s + 1) v
  row_sum-one s x v h at is d =
      let one : v ∷ [] ≡ added value adds cs vs s (s + 1) = ap (λ y. y ∷ []) is ∙ sym (added-one s x h at) in
      record { is_sum = sym (fold_of-one m v d) ∙ ap (fold_of m) one; of_domain = subst (AllByRecursion (IsValueOf (monoid_domain m))) one (d, tt) }

  pub row_sum-join : (s k e : ℕ) (a b sum : Value) → s ≤ k → k ≤ e → e ≤ length cs → IsRowSum m value adds cs vs s k a → IsRowSum m value adds cs vs k e b
      → sum ≡ value_of_op (monoid_op m) a b → IsRowSum m value adds cs vs s e sum
  row_sum-join s k e a b sum l r w g h made =
      let both = subst (λ us. IsFolding m us sum) (added-join s k e l r w)
      (folded_parts m (added value adds cs vs s k) (added value adds cs vs k e) a b sum (record { is_sum = g.is_sum; of_domain = g.of_domain }) (record { is_sum = h.is_sum; of_domain = h.of_domain }) made) in
      record { is_sum = both.is_sum; of_domain = both.of_domain }

  -- the first sum is that of none
  pub first_sum : (from : ℕ) (ss : List V) (x : V) → 0 < length ss → value x ≡ identity_of m → AreSums m value adds cs vs from from (set ss 0 x)
  first_sum from ss x some is = record {
    of_domain = (none_added from).of_domain;
    are = λ j s l e.
        let none : j ≡ 0 = omega (arith, l) in
        let here : from ≡ from + j = omega (arith, l) in
        ap value (e ∙ ap (λ q. get_or (set ss 0 x) q s) none ∙ get_or-set_same ss 0 x s some) ∙ is
        ∙ sym (ap (fold_of m) (ap (added value adds cs vs from) (sym here) ∙ added-none from));
  }

  -- one more sum
  pub more_sums : (from at : ℕ) (ss : List V) (x : V) → AreSums m value adds cs vs from (from + at) ss → at + 1 < length ss → IsAdded from (from + (at + 1)) (value x)
      → AreSums m value adds cs vs from (from + (at + 1)) (set ss (at + 1) x)
  more_sums from at ss x was room h = record {
    of_domain = h.of_domain;
    are = λ j s l e.
        elim (cases_eq j (at + 1)) [
          | inl q ↦ ap value (e ∙ ap (λ p. get_or (set ss (at + 1) x) p s) q ∙ get_or-set_same ss (at + 1) x s room) ∙ h.is_sum ∙ ap (λ p. fold_of m (added value adds cs vs from (from + p))) (sym q)
          | inr n ↦ was.are j s (omega (arith, l, n)) (e ∙ get_or-set_other ss (at + 1) j x s n)
        ];
  }

  part_of_domain : (from start end upto : ℕ) → from ≤ start → start ≤ end → end ≤ upto → upto ≤ length cs
      → AllByRecursion (IsValueOf (monoid_domain m)) (added value adds cs vs from upto)
      → AllByRecursion (IsValueOf (monoid_domain m)) (added value adds cs vs from start) × AllByRecursion (IsValueOf (monoid_domain m)) (added value adds cs vs start end)
  part_of_domain from start end upto a b c w h =
      let first = all_before (IsValueOf (monoid_domain m)) (added value adds cs vs from end) (added value adds cs vs end upto)
      (subst (AllByRecursion (IsValueOf (monoid_domain m))) (sym (added-join from end upto (omega (arith, a, b)) c w)) h) in
      let both = subst (AllByRecursion (IsValueOf (monoid_domain m))) (sym (added-join from start end a b (omega (arith, c, w)))) first in (
        all_before (IsValueOf (monoid_domain m)) (added value adds cs vs from start) (added value adds cs vs start end) both,
        all_later (IsValueOf (monoid_domain m)) (added value adds cs vs from start) (added value adds cs vs start end) both,
      )

  -- what the sum at the end of a row has beyond that at its start is the sum of the row
  pub row_added : (from start end upto : ℕ) (ss : List V) (big small rest : V) → AreSums m value adds cs vs from upto ss → from ≤ start → start ≤ end → end ≤ upto → upto ≤ length cs
      → big ≡ get_or ss (end - from) big → small ≡ get_or ss (start - from) small
      → ((v : Value) → IsValueOf (monoid_domain m) v → value_of_op (monoid_op m) (value small) v ≡ value big → value rest ≡ v)
      → IsAdded start end (value rest)
  row_added from start end upto ss big small rest h a b c w at_big at_small told =
      let to_start : from + (start - from) ≡ start = omega (arith, a) in
      let to_end : from + (end - from) ≡ end = omega (arith, a, b) in
      let parts = part_of_domain from start end upto a b c w h.of_domain in
      let small_is = h.are (start - from) small (omega (arith, to_start, b, c)) at_small ∙ ap (λ p. fold_of m (added value adds cs vs from p)) to_start in
      let big_is = h.are (end - from) big (omega (arith, to_end, c)) at_big ∙ ap (λ p. fold_of m (added value adds cs vs from p)) to_end in
      record {
        is_sum = told (fold_of m (added value adds cs vs start end)) (fold_of-is m (added value adds cs vs start end) parts.1)
            (ap (λ y. value_of_op (monoid_op m) y (fold_of m (added value adds cs vs start end))) small_is
            ∙ sym (fold_of-append m (added value adds cs vs from start) (added value adds cs vs start end) parts.0 parts.1)
            ∙ ap (fold_of m) (added-join from start end a b (omega (arith, c, w)))
            ∙ sym big_is);
        of_domain = parts.1;
      }

-- the sum of a row's values
pub some_values : (m : Monoid) {V : Type 0} (value : V → Value) (cs : List ℕ) (vs : List V) (s e : ℕ) (sum : Value) → length cs ≡ length vs → s < e → e ≤ length cs
    → sum ≡ fold_of m (values_of (entries_of value (drop s (take e cs)) (drop s (take e vs))))
    → Some sum ≡ fold_of_some m (values_of (entries_of value (drop s (take e cs)) (drop s (take e vs))))
some_values m value cs vs s e sum same some within is =
    let long = long_span vs s e (omega (arith, some)) (omega (arith, within, same)) in
    let longs = long_span cs s e (omega (arith, some)) within in
    some_fold m value cs vs s e sum same some within
    (is ∙ ap (fold_of m) (values_of-entries value (drop s (take e cs)) (drop s (take e vs)) (omega (arith, long, longs))))

-- one more product, or none
product_step : (m : Monoid) (w : Option Value) (us vs : List Value) → AllByRecursion (IsValueOf (monoid_domain m)) us → IsValueOf (monoid_domain m) (or_identity m w) → IsFolding m vs (fold_of m us)
    → IsFolding m (list_of w ++ vs) (value_of_op (monoid_op m) (or_identity m w) (fold_of m us))
product_step m None us vs d is h = record { is_sum = (monoid_laws m).neutral (fold_of m us) (fold_of-is m us d) ∙ h.is_sum; of_domain = h.of_domain }
product_step m (Some v) us vs d is h = record { is_sum = ap (value_of_op (monoid_op m) v) h.is_sum; of_domain = (is, h.of_domain) }

-- what the entries of a row add to its product has the same sum as their products
pub folded_products : (m : Monoid) (op : BinaryOp) (y : ℕ → Option Value) (x : VectorEntries) → AllByRecursion (IsValueOf (monoid_domain m)) (map (product_or m op y) x)
    → IsFolding m (products op y x) (fold_of m (map (product_or m op y) x))
folded_products m op y [] h = record { is_sum = refl; of_domain = tt }
folded_products m op y (e ∷ x) h =
    product_step m (both_values (value_of_op op) (Some e.1) (y e.0)) (map (product_or m op y) x) (products op y x) h.1 h.0 (folded_products m op y x h.1)

-- what an entry adds, by the mark of its place
pub product_by_mark : (m : Monoid) (op : BinaryOp) (w : Option Value) (v d product sum : Value) (here : Bool) → w ≡ kept d here → product ≡ value_of_op op v d
    → sum ≡ cond here product (identity_of m) → sum ≡ or_identity m (both_values (value_of_op op) (Some v) w)
product_by_mark m op w v d product sum here at made is =
    is ∙ ap (λ p. cond here p (identity_of m)) made ∙ by_mark here ∙ sym (ap (λ o. or_identity m (both_values (value_of_op op) (Some v) o)) at)
  where
    by_mark : (b : Bool) → cond b (value_of_op op v d) (identity_of m) ≡ or_identity m (both_values (value_of_op op) (Some v) (kept d b))
    by_mark true = refl
    by_mark false = refl

pub chosen_of_domain : (m : Monoid) (product sum : Value) (here : Bool) → IsValueOf (monoid_domain m) product → sum ≡ cond here product (identity_of m) → IsValueOf (monoid_domain m) sum
chosen_of_domain m product sum here is e = subst (IsValueOf (monoid_domain m)) (sym e) (by_mark here)
  where
    by_mark : (b : Bool) → IsValueOf (monoid_domain m) (cond b product (identity_of m))
    by_mark true = is
    by_mark false = (monoid_laws m).identity_is
