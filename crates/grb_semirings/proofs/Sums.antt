-- The sum of a row's products, against the definition by maps.
use Rattle.std.proofs.Common.{◌≡◌, ℕ, Bool, true, false, cond, List, [], ◌∷◌, ◌++◌, refl, sym, ap, subst, ◌∙◌, append_assoc}
use Rattle.std.specs.Prelude.{◌&&◌, Option, Some, None, IsTrue}
use Rattle.std.specs.Ordering.{nat_cmp, is_lt, is_eq, eq_by_cmp}
use Rattle.std.specs.declared.cmp.Ordering.TheVariants.{Less, Equal, Greater}
use Rattle.std.specs.Cmp.{nat_cmp_total}
use Rattle.std.specs.FinMap.{is_sorted, nat_cmp-IsAntisymmetric, find}
use Rattle.std.specs.FinMap.Entries.{below_all}
use lib.Dec.{T}
use Rattle.grb_core.specs.declared.value.Value.{Value}
use Rattle.grb_core.specs.declared.operator.BinaryOp.{BinaryOp}
use Rattle.grb_core.specs.declared.monoid.Monoid.{Monoid}
use Rattle.grb_core.specs.Value.{IsValueOf}
use Rattle.grb_core.specs.Operator.{value_of_op}
use Rattle.grb_core.specs.Monoid.{monoid_op, monoid_domain, identity_of}
use Rattle.grb_core.specs.Fold.{fold_of, fold_of_some}
use Rattle.grb_core.specs.Entries.{VectorEntries, before_entries, values_of}
use Rattle.grb_core.proofs.Maps.{find-before, is_sorted-before, same_entries_at}
use Rattle.grb_core.specs.Written.{pointwise, both_values}
use Rattle.grb_core.specs.Results.{product_of}
use Rattle.grb_core.specs.Semiring.{SemiringParts}
use Rattle.grb_kernels.specs.Typed.{kept}
use Rattle.grb_semirings.specs.Products.{list_of, products}
use Rattle.grb_core.proofs.Written.{find-pointwise, is_sorted-pointwise}
use Rattle.grb_semirings.proofs.Folds.{IsFolding, folded_more, fold_of-terminal}

ok : (b : Bool) → IsTrue b → T b
ok b e = subst T (sym e) tt

fst : (a b : Bool) → T (a && b) → T a
fst true b p = tt
fst false b p = absurd p

snd : (a b : Bool) → T (a && b) → T b
snd true b p = p
snd false b p = absurd p

and : (a b : Bool) → T a → T b → T (a && b)
and true b p q = q
and false b p q = absurd p

module _ (f : Option Value → Option Value → Option Value) (y : ℕ → Option Value) where
  -- the first map's entries, each with what y has at its index
  abbrev pub zipped : VectorEntries → VectorEntries
  zipped [] = []
  zipped (e ∷ es) = before_entries e.0 (f (Some e.1) (y e.0)) (zipped es)

  below-before : (k l : ℕ) (w : Option Value) (m : VectorEntries) → T (is_lt (nat_cmp k l)) → T (below_all nat_cmp k m) → T (below_all nat_cmp k (before_entries l w m))
  below-before k l None m h g = g
  below-before k l (Some v) m h g = and _ _ h g

  below-zipped : (k : ℕ) (x : VectorEntries) → T (below_all nat_cmp k x) → T (below_all nat_cmp k (zipped x))
  below-zipped k [] h = tt
  below-zipped k (e ∷ es) h = below-before k e.0 (f (Some e.1) (y e.0)) (zipped es) (fst _ _ h) (below-zipped k es (snd _ _ h))

  is_sorted-zipped : (x : VectorEntries) → T (is_sorted nat_cmp x) → T (is_sorted nat_cmp (zipped x))
  is_sorted-zipped [] h = tt
  is_sorted-zipped (e ∷ es) h =
      is_sorted-before nat_cmp e.0 (f (Some e.1) (y e.0)) (zipped es) (below-zipped e.0 es (fst _ _ h)) (is_sorted-zipped es (snd _ _ h))

  find-zipped : ((w : Option Value) → f None w ≡ None) → (q : ℕ) (x : VectorEntries) → T (is_sorted nat_cmp x) → find nat_cmp q (zipped x) ≡ f (find nat_cmp q x) (y q)
  find-zipped none q [] h = sym (none (y q))
  find-zipped none q (e ∷ es) h =
      find-before nat_cmp nat_cmp_total e.0 q (f (Some e.1) (y e.0)) (zipped es) (below-zipped e.0 es (fst _ _ h))
      ∙ ap (cond (eq_by_cmp nat_cmp q e.0) (f (Some e.1) (y e.0))) (find-zipped none q es (snd _ _ h))
      ∙ elim (nat_cmp q e.0) as (λ r. nat_cmp q e.0 ≡ r → cond (is_eq r) (f (Some e.1) (y e.0)) (f (find nat_cmp q es) (y q)) ≡ f (cond (is_eq r) (Some e.1) (find nat_cmp q es)) (y q)) [
        | Less ↦ λ t. refl
        | Equal ↦ λ t. ap (λ k. f (Some e.1) (y k)) (sym (nat_cmp-IsAntisymmetric q e.0 t))
        | Greater ↦ λ t. refl
      ] refl

-- a pointwise map that is within the first map
pub pointwise-zipped : (f : Option Value → Option Value → Option Value) → ((w : Option Value) → f None w ≡ None) → (x u : VectorEntries) → T (is_sorted nat_cmp x)
    → pointwise nat_cmp f x u ≡ zipped f (λ j. find nat_cmp j u) x
pointwise-zipped f none x u h =
    same_entries_at nat_cmp nat_cmp_total nat_cmp-IsAntisymmetric _ _ (is_sorted-pointwise nat_cmp_total nat_cmp-IsAntisymmetric f x u) (is_sorted-zipped f (λ j. find nat_cmp j u) x h)
    (λ q. find-pointwise nat_cmp_total nat_cmp-IsAntisymmetric f (none None) q x u ∙ sym (find-zipped f (λ j. find nat_cmp j u) none q x h))

module _ (op : BinaryOp) (y : ℕ → Option Value) where
  values_of-zipped : (x : VectorEntries) → values_of (zipped (both_values (value_of_op op)) y x) ≡ products op y x
  values_of-zipped [] = refl
  values_of-zipped (e ∷ es) =
      elim (y e.0) as (λ w. values_of (before_entries e.0 (both_values (value_of_op op) (Some e.1) w) (zipped (both_values (value_of_op op)) y es)) ≡ list_of (both_values (value_of_op op) (Some e.1) w) ++ products op y es) [
        | None ↦ values_of-zipped es
        | Some v ↦ ap (λ vs. value_of_op op e.1 v ∷ vs) (values_of-zipped es)
      ]

  pub products-append : (x z : VectorEntries) → products op y (x ++ z) ≡ products op y x ++ products op y z
  products-append [] z = refl
  products-append (e ∷ x) z = ap (λ vs. list_of (both_values (value_of_op op) (Some e.1) (y e.0)) ++ vs) (products-append x z) ∙ sym (append_assoc (list_of (both_values (value_of_op op) (Some e.1) (y e.0))) (products op y x) (products op y z))

  pub products-more : (x : VectorEntries) (k : ℕ) (v : Value) → products op y (x ++ (k, v) ∷ []) ≡ products op y x ++ list_of (both_values (value_of_op op) (Some v) (y k))
  products-more x k v = products-append x ((k, v) ∷ []) ∙ ap (λ vs. products op y x ++ vs) (nothing_more (list_of (both_values (value_of_op op) (Some v) (y k))))
    where
      nothing_more : (vs : List Value) → vs ++ [] ≡ vs
      nothing_more [] = refl
      nothing_more (v ∷ vs) = ap (λ t. v ∷ t) (nothing_more vs)

both_none : (f : Value → Value → Value) (w : Option Value) → both_values f None w ≡ None
both_none f w = refl

-- the definition's product of a row and a vector is the fold of the products
pub product_of-products : (s : SemiringParts) (x u : VectorEntries) → IsTrue (is_sorted nat_cmp x)
    → product_of s x u ≡ fold_of_some s.monoid (products s.op (λ j. find nat_cmp j u) x)
product_of-products s x u h =
    ap (λ m. fold_of_some s.monoid (values_of m)) (pointwise-zipped (both_values (value_of_op s.op)) (both_none (value_of_op s.op)) x u (ok _ h))
    ∙ ap (fold_of_some s.monoid) (values_of-zipped s.op (λ j. find nat_cmp j u) x)

pub products-same : (op : BinaryOp) (y z : ℕ → Option Value) → ((j : ℕ) → y j ≡ z j) → (x : VectorEntries) → products op y x ≡ products op z x
products-same op y z h [] = refl
products-same op y z h (e ∷ es) =
    ap (λ w. list_of (both_values (value_of_op op) (Some e.1) w) ++ products op y es) (h e.0)
    ∙ ap (λ vs. list_of (both_values (value_of_op op) (Some e.1) (z e.0)) ++ vs) (products-same op y z h es)

-- a fold so far: its value, and whether it has one
pub record IsSumming (m : Monoid) (vs : List Value) (sum : Value) (any : Bool) : Type 0 where
  pub folding : IsFolding m vs sum
  pub is_some : kept sum any ≡ fold_of_some m vs

module _ (m : Monoid) where
  pub fold_of_some-more : (vs : List Value) (v : Value) (us : List Value) → fold_of_some m (vs ++ v ∷ us) ≡ Some (fold_of m (vs ++ v ∷ us))
  fold_of_some-more [] v us = refl
  fold_of_some-more (x ∷ vs) v us = refl

  pub nothing_folded : IsSumming m [] (identity_of m) false
  nothing_folded = record { folding = record { is_sum = refl; of_domain = tt }; is_some = refl }

  -- one more value
  pub summed_more : (vs : List Value) (sum v next : Value) (any : Bool) → IsSumming m vs sum any → IsValueOf (monoid_domain m) v → next ≡ value_of_op (monoid_op m) sum v
      → IsSumming m (vs ++ v ∷ []) next true
  summed_more vs sum v next any h is e =
      let more = folded_more m vs sum v next h.folding is e in
      record {
        folding = more;
        is_some = ap Some more.is_sum ∙ sym (fold_of_some-more vs v []);
      }

  -- a terminal value, whatever comes behind it
  pub ended : (vs : List Value) (sum v : Value) (us : List Value) → IsFolding m vs sum → IsValueOf (monoid_domain m) v → ((w : Value) → value_of_op (monoid_op m) v w ≡ v)
      → Some v ≡ fold_of_some m (vs ++ v ∷ us)
  ended vs sum v us h is stays = ap Some (sym (fold_of-terminal m vs v us h.of_domain is stays)) ∙ sym (fold_of_some-more vs v us)
