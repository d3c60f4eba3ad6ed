-- The products of one row: no two of them are of one column, so each is its own fold.
use Rattle.std.proofs.Common.{◌≡◌, ℕ, Bool, true, false, cond, List, [], ◌∷◌, length, get_or, refl, sym, ap, ◌∙◌, arith}
use Rattle.std.specs.Prelude.{◌&&◌, map, Some}
use Rattle.std.specs.List.{AllByRecursion}
use Rattle.std.specs.declared.cmp.Ordering.TheVariants.{Less, Equal, Greater}
use Rattle.std.specs.Ordering.{nat_cmp, is_eq, eq_by_cmp}
use Rattle.std.specs.Cmp.{nat_cmp_total}
use Rattle.std.specs.FinMap.{find, is_sorted, nat_cmp-IsAntisymmetric}
use Rattle.std.specs.FinMap.Entries.{below_all}
use lib.Dec.{T}
use Rattle.grb_core.specs.declared.value.Value.{Value}
use Rattle.grb_core.specs.declared.monoid.Monoid.{Monoid}
use Rattle.grb_core.specs.Value.{IsValueOf}
use Rattle.grb_core.specs.Monoid.{monoid_domain, identity_of}
use Rattle.grb_core.specs.Fold.{fold_of, fold_of_some}
use Rattle.grb_core.specs.Entries.{VectorEntries, MatrixEntries, built_from, restricted, values_at, values_of}
use Rattle.grb_core.specs.Results.{row_of}
use Rattle.grb_core.proofs.Maps.{find-tied_below, is_sorted-map_on_indices, same_entries_at}
use Rattle.grb_core.proofs.MonoidLaws.{monoid_laws}
use Rattle.grb_kernels.specs.Typed.{entries_of}
use Rattle.grb_kernels.proofs.Lists.{append_nil}
use Rattle.grb_sums.specs.ColumnSums.{with_values}
use Rattle.grb_push.specs.Pushes.{pushed}
use Rattle.grb_sums.proofs.ColumnFolds.{find-built, values_at-none}

fst : (a b : Bool) → T (a && b) → T a
fst true b p = tt
fst false b p = absurd p

snd : (a b : Bool) → T (a && b) → T b
snd true b p = p
snd false b p = absurd p

and : (a b : Bool) → T a → T b → T (a && b)
and true b p q = q
and false b p q = absurd p

module _ (m : Monoid) where
  -- a value alone is its fold
  fold_of-one : (v : Value) → IsValueOf (monoid_domain m) v → fold_of m (v ∷ []) ≡ v
  fold_of-one v is = let laws = monoid_laws m in laws.commutative v (identity_of m) is laws.identity_is ∙ laws.neutral v is

  fold-in_order : (q : ℕ) (es : VectorEntries) → T (is_sorted nat_cmp es) → AllByRecursion (λ e. IsValueOf (monoid_domain m) e.1) es
      → fold_of_some m (values_at nat_cmp q es) ≡ find nat_cmp q es
  fold-in_order q [] h are = refl
  fold-in_order q (e ∷ es) h are =
      let rest = fold-in_order q es (snd _ _ h) are.1 in
      elim (nat_cmp q e.0) as (λ r. nat_cmp q e.0 ≡ r
      → fold_of_some m (values_of (cond (is_eq r) (e ∷ restricted (λ l. eq_by_cmp nat_cmp q l) es) (restricted (λ l. eq_by_cmp nat_cmp q l) es)))
      ≡ cond (is_eq r) (Some e.1) (find nat_cmp q es)) [
        | Less ↦ λ t. rest
        | Equal ↦ λ t. ap (λ (vs : List Value). fold_of_some m (e.1 ∷ vs)) (values_at-none q es (find-tied_below nat_cmp nat_cmp_total e.0 q es (fst _ _ h) t))
            ∙ ap Some (fold_of-one e.1 are.0)
        | Greater ↦ λ t. rest
      ] refl

  -- entries in order are what is built from them
  pub built-in_order : (es : VectorEntries) → T (is_sorted nat_cmp es) → AllByRecursion (λ e. IsValueOf (monoid_domain m) e.1) es → built_from nat_cmp m es ≡ es
  built-in_order es h are =
      same_entries_at nat_cmp nat_cmp_total nat_cmp-IsAntisymmetric (built_from nat_cmp m es) es
      (is_sorted-map_on_indices nat_cmp nat_cmp_total (λ q. fold_of_some m (values_at nat_cmp q es)) es) h
      (λ q. find-built m es q ∙ fold-in_order q es h are)

-- other values change no order
module _ (f : Value → Value) where
  below-with_values : (k : ℕ) (m : VectorEntries) → T (below_all nat_cmp k m) → T (below_all nat_cmp k (with_values f m))
  below-with_values k [] h = tt
  below-with_values k (e ∷ m) h = and _ _ (fst _ _ h) (below-with_values k m (snd _ _ h))

  pub sorted-with_values : (m : VectorEntries) → T (is_sorted nat_cmp m) → T (is_sorted nat_cmp (with_values f m))
  sorted-with_values [] h = tt
  sorted-with_values (e ∷ m) h = and _ _ (below-with_values e.0 m (fst _ _ h)) (sorted-with_values m (snd _ _ h))

module _ {V : Type 0} (tv : V → Value) where
  -- entries whose values are made of those of others
  pub entries-made : (f : Value → Value) (ks : List ℕ) (vs ws : List V) → map tv ws ≡ map (λ v. f (tv v)) vs → entries_of tv ks ws ≡ with_values f (entries_of tv ks vs)
  entries-made f [] vs ws e = refl
  entries-made f (k ∷ ks) [] [] e = refl
  entries-made f (k ∷ ks) [] (w ∷ ws) e = cc
  entries-made f (k ∷ ks) (v ∷ vs) [] e = cc
  entries-made f (k ∷ ks) (v ∷ vs) (w ∷ ws) e =
      let here : tv w ≡ f (tv v) = cc in
      let rest : map tv ws ≡ map (λ x. f (tv x)) vs = cc in
      ap (λ x. (k, x) ∷ entries_of tv ks ws) here ∙ ap (λ (m : VectorEntries). (k, f (tv v)) ∷ m) (entries-made f ks vs ws rest)

  -- what holds of the values holds of those of the entries
  pub values_of-entries : (P : Value → Type 0) (ks : List ℕ) (vs : List V) → AllByRecursion (λ v. P (tv v)) vs → AllByRecursion (λ e. P e.1) (entries_of tv ks vs)
  values_of-entries P [] vs h = tt
  values_of-entries P (k ∷ ks) [] h = tt
  values_of-entries P (k ∷ ks) (v ∷ vs) h = (h.0, values_of-entries P ks vs h.1)

-- a vector that stores one value pushes one row
pub pushed-one : (f : Value → Value → Value) (k : ℕ) (x : Value) (a : MatrixEntries) → pushed f ((k, x) ∷ []) a ≡ with_values (f x) (row_of k a)
pushed-one f k x a = append_nil (with_values (f x) (row_of k a))

alone : {A : Type 0} (d : A) (xs : List A) → length xs ≡ 1 → xs ≡ get_or xs 0 d ∷ []
alone d [] one = cc
alone d (x ∷ []) one = refl
alone d (x ∷ y ∷ xs) one = absurd (omega (arith, one))

-- the entries of a vector that stores one
pub entries-one : {V : Type 0} (tv : V → Value) (ks : List ℕ) (vs : List V) (x : V) → length ks ≡ 1 → length ks ≡ length vs → x ≡ get_or vs 0 x → entries_of tv ks vs ≡ (get_or ks 0 0, tv x) ∷ []
entries-one tv ks vs x one same is =
    ap (λ (js : List ℕ). entries_of tv js vs) (alone 0 ks one)
    ∙ ap (entries_of tv (get_or ks 0 0 ∷ [])) (alone x vs (sym same ∙ one))
    ∙ ap (λ (v : _). (get_or ks 0 0, tv v) ∷ []) (sym is)
