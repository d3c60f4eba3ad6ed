-- A row added to the sums of a row, entry by entry; and the sums as the definition has them.
use Rattle.std.proofs.Common.{◌≡◌, ℕ, ◌<◌, Bool, true, false, cond, List, [], ◌∷◌, ◌++◌, refl, sym, ap, subst, ◌∙◌, length, get_or}
use Rattle.std.specs.Prelude.{◌&&◌, Option, Some, None, IsTrue}
use Rattle.std.specs.List.{AllByRecursion}
use Rattle.std.specs.declared.cmp.Ordering.TheVariants.{Less, Equal, Greater}
use Rattle.std.specs.Ordering.{nat_cmp, is_eq}
use Rattle.std.specs.FinMap.{find, is_sorted}
use Rattle.std.specs.FinMap.Entries.{below_all}
use lib.Dec.{T}
use Rattle.grb_core.specs.declared.value.Value.{Value}
use Rattle.grb_core.specs.declared.monoid.Monoid.{Monoid}
use Rattle.grb_core.specs.Value.{IsValueOf}
use Rattle.grb_core.specs.Operator.{value_of_op}
use Rattle.grb_core.specs.Monoid.{monoid_op, monoid_domain}
use Rattle.grb_core.specs.Fold.{fold_of_some}
use Rattle.grb_core.specs.Entries.{VectorEntries}
use Rattle.grb_core.specs.Written.{either_value, both_values}
use Rattle.grb_kernels.specs.Typed.{kept}
use Rattle.grb_core.specs.declared.operator.BinaryOp.{BinaryOp}
use Rattle.grb_semirings.specs.Products.{list_of, products}
use Rattle.grb_semirings.proofs.Sums.{products-more}
use Rattle.grb_semirings.proofs.Folds.{fold_of-more, fold_of-one}
use Rattle.grb_core.specs.Monoid.{identity_of}
use Rattle.grb_core.proofs.MonoidLaws.{monoid_laws}
use Rattle.grb_sums.specs.Marks.{HoldUnmarked}
use Rattle.grb_sums.proofs.LowestBit.{value-read}
use Rattle.grb_sums.proofs.Renamed.{passes, holds}

fst : (a b : Bool) → T (a && b) → T a
fst true b p = tt
fst false b p = absurd p

snd : (a b : Bool) → T (a && b) → T b
snd true b p = p
snd false b p = absurd p

pub here_or_not : (add : Value → Value → Value) (o p : Value) (b : Bool) → (b ≡ false → add o p ≡ p) → Some (add o p) ≡ either_value add (kept o b) (Some p)
here_or_not add o p true h = refl
here_or_not add o p false h = ap Some (h refl)

pub all_and : {A : Type 0} (P : A → Type 0) (xs : List A) (x : A) → AllByRecursion P xs → P x → AllByRecursion P (xs ++ x ∷ [])
all_and P [] x h is = (is, tt)
all_and P (y ∷ xs) x h is = (h.0, all_and P xs x h.1 is)

pub below_rest : (q : ℕ) (y : Value) (rest : VectorEntries) → IsTrue (is_sorted nat_cmp ((q, y) ∷ rest)) → T (below_all nat_cmp q rest)
below_rest q y rest s = fst _ _ (holds _ s)

pub rest_ordered : (q : ℕ) (y : Value) (rest : VectorEntries) → IsTrue (is_sorted nat_cmp ((q, y) ∷ rest)) → IsTrue (is_sorted nat_cmp rest)
rest_ordered q y rest s = passes _ (snd _ _ (holds _ s))

append_nothing : (xs : List Value) → xs ++ [] ≡ xs
append_nothing [] = refl
append_nothing (x ∷ xs) = ap (λ t. x ∷ t) (append_nothing xs)

-- a fold with one value more, if there is one
pub fold_some-more : (m : Monoid) (vs : List Value) (w : Option Value) → AllByRecursion (IsValueOf (monoid_domain m)) vs → AllByRecursion (IsValueOf (monoid_domain m)) (list_of w)
    → either_value (value_of_op (monoid_op m)) (fold_of_some m vs) w ≡ fold_of_some m (vs ++ list_of w)
fold_some-more m [] None h is = refl
fold_some-more m [] (Some v) h is = ap Some (sym (fold_of-one m v is.0))
fold_some-more m (x ∷ vs) None h is = ap (fold_of_some m) (sym (append_nothing (x ∷ vs)))
fold_some-more m (x ∷ vs) (Some v) h is = ap Some (sym (fold_of-more m (x ∷ vs) v h is.0))

-- what a test of all entries says of the one at a column
pub found_product : (d : Value → Type 0) (op : BinaryOp) (v : Value) (m : VectorEntries) (j : ℕ) → AllByRecursion (λ e. d (value_of_op op v e.1)) m → AllByRecursion d (list_of (both_values (value_of_op op) (Some v) (find nat_cmp j m)))
found_product d op v [] j h = tt
found_product d op v (e ∷ m) j h =
    elim (nat_cmp j e.0) as (λ r. AllByRecursion d (list_of (both_values (value_of_op op) (Some v) (cond (is_eq r) (Some e.1) (find nat_cmp j m))))) [
      | Less ↦ found_product d op v m j h.1
      | Equal ↦ (h.0, tt)
      | Greater ↦ found_product d op v m j h.1
    ]

all_append : (d : Value → Type 0) (xs ys : List Value) → AllByRecursion d xs → AllByRecursion d ys → AllByRecursion d (xs ++ ys)
all_append d [] ys h k = k
all_append d (x ∷ xs) ys h k = (h.0, all_append d xs ys h.1 k)

module _ (m : Monoid) (op : BinaryOp) (y : ℕ → Option Value) (x : VectorEntries) (k : ℕ) (v : Value)
    (was_of : AllByRecursion (IsValueOf (monoid_domain m)) (products op y x)) (is_of : AllByRecursion (IsValueOf (monoid_domain m)) (list_of (both_values (value_of_op op) (Some v) (y k)))) where
  -- one more entry of the row of the first matrix
  pub summed_of : AllByRecursion (IsValueOf (monoid_domain m)) (products op y (x ++ (k, v) ∷ []))
  summed_of =
      subst (AllByRecursion (IsValueOf (monoid_domain m))) (sym (products-more op y x k v))
      (all_append (IsValueOf (monoid_domain m)) (products op y x) (list_of (both_values (value_of_op op) (Some v) (y k))) was_of is_of)

  pub summed : (old new : Option Value) → old ≡ fold_of_some m (products op y x) → new ≡ either_value (value_of_op (monoid_op m)) old (both_values (value_of_op op) (Some v) (y k))
      → new ≡ fold_of_some m (products op y (x ++ (k, v) ∷ []))
  summed old new was step =
      let w = both_values (value_of_op op) (Some v) (y k) in
      step
      ∙ ap (λ o. either_value (value_of_op (monoid_op m)) o w) was
      ∙ fold_some-more m (products op y x) w was_of is_of
      ∙ ap (fold_of_some m) (sym (products-more op y x k v))

-- the first product at a place is the sum there
pub first_sum : {V : Type 0} (tv : V → Value) (m : Monoid) (ms : List Bool) (ss : List V) (q : ℕ) (old : V) (p : Value) → q < length ss → old ≡ get_or ss q old → HoldUnmarked tv (identity_of m) ms ss
    → IsValueOf (monoid_domain m) p → get_or ms q false ≡ false → value_of_op (monoid_op m) (tv old) p ≡ p
first_sum tv m ms ss q old p inside is held of none =
    let identity : tv old ≡ identity_of m = same_some (value-read tv ss q old inside is ∙ held q inside none) in
    ap (λ o. value_of_op (monoid_op m) o p) identity ∙ (monoid_laws m).neutral p of
  where
    same_some : {a b : Value} → Some a ≡ Some b → a ≡ b
    same_some e = cc
