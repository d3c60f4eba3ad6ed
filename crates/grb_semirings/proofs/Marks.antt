-- Values with marks, read and written at an index.
use Rattle.std.proofs.Common.{◌≡◌, ℕ, zero, suc, ◌<◌, Bool, true, false, cond, List, [], ◌∷◌, ◌++◌, refl, sym, ap, subst, ◌∙◌, arith, length, get_or, set, ◌+◌}
use Rattle.std.specs.List.{AllByRecursion}
use Rattle.std.specs.Prelude.{Option, Some, None, ◌||◌, ◌&&◌}
use Rattle.std.proofs.Math.ListN.{replicate}
use Rattle.std.specs.declared.cmp.Ordering.{Ordering}
use Rattle.std.specs.declared.cmp.Ordering.TheVariants.{Less, Equal, Greater}
use Rattle.std.specs.Ordering.{nat_cmp, is_eq}
use Rattle.std.specs.Cmp.{nat_cmp_is}
use Rattle.std.specs.FinMap.{find, nat_cmp-IsAntisymmetric}
use Rattle.grb_core.specs.declared.value.Value.{Value}
use Rattle.grb_core.specs.declared.operator.BinaryOp.{BinaryOp}
use Rattle.grb_core.specs.declared.monoid.Monoid.{Monoid}
use Rattle.grb_core.specs.Value.{IsValueOf}
use Rattle.grb_core.specs.Operator.{value_of_op}
use Rattle.grb_core.specs.Monoid.{monoid_op, monoid_domain, identity_of}
use Rattle.grb_core.specs.Entries.{VectorEntries}
use Rattle.grb_core.specs.Written.{both_values}
use Rattle.grb_kernels.specs.Typed.{kept, entries_of, first_entries, entries_from}
use Rattle.grb_kernels.proofs.Lists.{from-read}
use Rattle.grb_core.specs.Fold.{fold_of_some}
use Rattle.grb_semirings.specs.Open.{marked_at}
use Rattle.grb_semirings.specs.Products.{list_of, products}
use Rattle.grb_semirings.proofs.Folds.{added_nothing}
use Rattle.grb_semirings.proofs.Sums.{IsSumming, summed_more, products-more, products-append, ended}

module _ {V : Type 0} (value : V → Value) where
  pub marked-read : (ms : List Bool) (vs : List V) (j : ℕ) (x : V) → j < length ms → length ms ≡ length vs → x ≡ get_or vs j x
      → marked_at value ms vs j ≡ kept (value x) (get_or ms j false)
  marked-read [] vs j x h e is = absurd (omega arith)
  marked-read (m ∷ ms) [] j x h e is = absurd (omega arith)
  marked-read (m ∷ ms) (v ∷ vs) zero x h e is = ap (λ w. kept (value w) m) (sym is)
  marked-read (m ∷ ms) (v ∷ vs) (suc j) x h e is = marked-read ms vs j x (omega arith) (omega arith) is

or_nothing : (xs : List Value) → xs ++ [] ≡ xs
or_nothing [] = refl
or_nothing (x ∷ xs) = ap (λ t. x ∷ t) (or_nothing xs)

-- one more entry of the row: its product is added where there is a mark, and else what changes no sum
pub folded_step : (m : Monoid) (op : BinaryOp) (y : ℕ → Option Value) (x : VectorEntries) (k : ℕ) (v d product sum sum' : Value) (here any any' : Bool)
    → IsSumming m (products op y x) sum any → y k ≡ kept d here → IsValueOf (monoid_domain m) product → product ≡ value_of_op op v d
    → sum' ≡ value_of_op (monoid_op m) sum (cond here product (identity_of m)) → any' ≡ (here || any)
    → IsSumming m (products op y (x ++ (k, v) ∷ [])) sum' any'
folded_step m op y x k v d product sum sum' here any any' h at is made s a =
    let more : products op y (x ++ (k, v) ∷ []) ≡ products op y x ++ list_of (both_values (value_of_op op) (Some v) (kept d here)) =
    products-more op y x k v ∙ ap (λ w. products op y x ++ list_of (both_values (value_of_op op) (Some v) w)) at in
    subst (λ vs. IsSumming m vs sum' any') (sym more)
    (subst (λ w. IsSumming m (products op y x ++ list_of (both_values (value_of_op op) (Some v) (kept d here))) w any') (sym s)
    (subst (λ w. IsSumming m (products op y x ++ list_of (both_values (value_of_op op) (Some v) (kept d here))) (value_of_op (monoid_op m) sum (cond here product (identity_of m))) w) (sym a)
    (by_mark here)))
  where
    unchanged : value_of_op (monoid_op m) sum (identity_of m) ≡ sum
    unchanged = added_nothing m (products op y x) sum h.folding

    by_mark : (b : Bool) → IsSumming m (products op y x ++ list_of (both_values (value_of_op op) (Some v) (kept d b))) (value_of_op (monoid_op m) sum (cond b product (identity_of m))) (b || any)
    by_mark true = subst (λ p. IsSumming m (products op y x ++ p ∷ []) (value_of_op (monoid_op m) sum product) true) made (summed_more m (products op y x) sum product (value_of_op (monoid_op m) sum product) any h is refl)
    by_mark false = subst (λ vs. IsSumming m vs (value_of_op (monoid_op m) sum (identity_of m)) any) (sym (or_nothing (products op y x))) (subst (λ w. IsSumming m (products op y x) w any) (sym unchanged) h)

pub by_test : {A B : Type 0} (f : A → B) (b : Bool) (x y : A) → f (cond b x y) ≡ cond b (f x) (f y)
by_test f true x y = refl
by_test f false x y = refl

module _ {V : Type 0} (value : V → Value) where
  pub marked-set_same : (ms : List Bool) (vs : List V) (k : ℕ) (v : V) → k < length ms → length ms ≡ length vs → marked_at value (set ms k true) (set vs k v) k ≡ Some (value v)
  marked-set_same [] vs k v h e = absurd (omega arith)
  marked-set_same (m ∷ ms) [] k v h e = absurd (omega arith)
  marked-set_same (m ∷ ms) (w ∷ vs) zero v h e = refl
  marked-set_same (m ∷ ms) (w ∷ vs) (suc k) v h e = marked-set_same ms vs k v (omega arith) (omega arith)

  pub marked-set_other : (ms : List Bool) (vs : List V) (k j : ℕ) (b : Bool) (v : V) → (j ≡ k → ⊥) → marked_at value (set ms k b) (set vs k v) j ≡ marked_at value ms vs j
  marked-set_other [] vs k j b v n = refl
  marked-set_other (m ∷ ms) [] zero j b v n = refl
  marked-set_other (m ∷ ms) [] (suc k) j b v n = refl
  marked-set_other (m ∷ ms) (w ∷ vs) zero zero b v n = absurd (n refl)
  marked-set_other (m ∷ ms) (w ∷ vs) zero (suc j) b v n = refl
  marked-set_other (m ∷ ms) (w ∷ vs) (suc k) zero b v n = refl
  marked-set_other (m ∷ ms) (w ∷ vs) (suc k) (suc j) b v n = marked-set_other ms vs k j b v (λ e. n (ap suc e))

  pub nothing_marked : (n : ℕ) (vs : List V) (j : ℕ) → marked_at value (replicate n false) vs j ≡ None
  nothing_marked zero vs j = refl
  nothing_marked (suc n) [] j = refl
  nothing_marked (suc n) (v ∷ vs) zero = refl
  nothing_marked (suc n) (v ∷ vs) (suc j) = nothing_marked n vs j

  -- a value is scattered: at its index it is the one, elsewhere nothing changes
  pub scattered : (ms : List Bool) (vs : List V) (k : ℕ) (v : V) (m : VectorEntries) → k < length ms → length ms ≡ length vs
      → ((j : ℕ) → marked_at value ms vs j ≡ find nat_cmp j m) → (j : ℕ) → marked_at value (set ms k true) (set vs k v) j ≡ find nat_cmp j ((k, value v) ∷ m)
  scattered ms vs k v m h e was j =
      elim (nat_cmp j k) as (λ r. nat_cmp j k ≡ r → marked_at value (set ms k true) (set vs k v) j ≡ cond (is_eq r) (Some (value v)) (find nat_cmp j m)) [
        | Less ↦ λ t. marked-set_other ms vs k j true v (λ q. apart j k q Less t (λ (n : Less ≡ Equal). cc)) ∙ was j
        | Equal ↦ λ t. ap (marked_at value (set ms k true) (set vs k v)) (nat_cmp-IsAntisymmetric j k t) ∙ marked-set_same ms vs k v h e
        | Greater ↦ λ t. marked-set_other ms vs k j true v (λ q. apart j k q Greater t (λ (n : Greater ≡ Equal). cc)) ∙ was j
      ] refl
    where
      apart : (j k : ℕ) → j ≡ k → (r : Ordering) → nat_cmp j k ≡ r → (r ≡ Equal → ⊥) → ⊥
      apart j k q r t n = n (sym t ∙ sym (nat_cmp_is j k Equal q))

pub all_clear : {V : Type 0} (value : V → Value) (ms : List Bool) (vs : List V) → AllByRecursion (λ m. m ≡ false) ms → (j : ℕ) → marked_at value ms vs j ≡ None
all_clear value [] vs h j = refl
all_clear value (m ∷ ms) [] h j = refl
all_clear value (m ∷ ms) (v ∷ vs) h zero = ap (kept (value v)) h.0
all_clear value (m ∷ ms) (v ∷ vs) h (suc j) = all_clear value ms vs h.1 j

-- the entries up to one, that one, and the rest
module _ {V : Type 0} (value : V → Value) where
  split_at : (cs : List ℕ) (vs : List V) (i : ℕ) → length cs ≡ length vs → entries_of value cs vs ≡ first_entries value i cs vs ++ entries_from value i cs vs
  split_at cs vs zero e = refl
  split_at [] vs (suc i) e = refl
  split_at (c ∷ cs) [] (suc i) e = absurd (omega arith)
  split_at (c ∷ cs) (v ∷ vs) (suc i) e = ap (λ (m : VectorEntries). (c, value v) ∷ m) (split_at cs vs i (omega arith))

  pub parted_at : (cs : List ℕ) (vs : List V) (i : ℕ) (x : V) → i < length cs → length cs ≡ length vs → x ≡ get_or vs i x
      → entries_of value cs vs ≡ first_entries value i cs vs ++ (get_or cs i 0, value x) ∷ entries_from value (i + 1) cs vs
  parted_at cs vs i x h e is = split_at cs vs i e ∙ ap (λ (m : VectorEntries). first_entries value i cs vs ++ m) (from-read value cs vs i x h e is)

pub and_first : (a b : Bool) → a && b ≡ true → a ≡ true
and_first true b e = refl
and_first false b e = cc

pub and_second : (a b : Bool) → a && b ≡ true → b ≡ true
and_second true b e = e
and_second false b e = cc

-- a terminal product ends the fold
pub ended_at : (m : Monoid) (op : BinaryOp) (y : ℕ → Option Value) (x : VectorEntries) (k : ℕ) (v d product sum : Value) (z : VectorEntries) (here any : Bool)
    → IsSumming m (products op y x) sum any → y k ≡ kept d here → here ≡ true → IsValueOf (monoid_domain m) product → product ≡ value_of_op op v d
    → ((w : Value) → value_of_op (monoid_op m) product w ≡ product) → Some product ≡ fold_of_some m (products op y (x ++ (k, v) ∷ z))
ended_at m op y x k v d product sum z here any h at true_here is made stays =
    ended m (products op y x) sum product (products op y z) h.folding is stays
    ∙ ap (fold_of_some m) (sym (products-append op y x ((k, v) ∷ z) ∙ ap (λ us. products op y x ++ us) one))
  where
    one : list_of (both_values (value_of_op op) (Some v) (y k)) ++ products op y z ≡ product ∷ products op y z
    one = ap (λ w. list_of (both_values (value_of_op op) (Some v) w) ++ products op y z) (at ∙ ap (kept d) true_here) ∙ ap (λ p. p ∷ products op y z) (sym made)
