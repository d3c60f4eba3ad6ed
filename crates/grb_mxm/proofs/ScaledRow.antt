-- A row of one entry: its product is the row of the second matrix that it picks, with each value multiplied.
use Rattle.std.proofs.Common.{◌≡◌, ℕ, Bool, true, false, cond, List, [], ◌∷◌, ◌++◌, length, get_or, refl, sym, ap, ◌∙◌, arith}
use Rattle.std.specs.Prelude.{◌&&◌, Option, Some, None}
use Rattle.std.specs.Option.{option_map}
use Rattle.std.specs.List.{AllByRecursion}
use Rattle.std.specs.Ordering.{nat_cmp, is_eq}
use Rattle.std.specs.Cmp.{nat_cmp_total}
use Rattle.std.specs.FinMap.{find, is_sorted, nat_cmp-IsAntisymmetric}
use Rattle.std.specs.FinMap.Entries.{below_all}
use lib.Dec.{T}
use Rattle.grb_core.specs.declared.value.Value.{Value}
use Rattle.grb_core.specs.Value.{IsValueOf}
use Rattle.grb_core.specs.Operator.{value_of_op}
use Rattle.grb_core.specs.Monoid.{monoid_domain}
use Rattle.grb_core.specs.Fold.{fold_of_some}
use Rattle.grb_core.specs.Semiring.{SemiringParts}
use Rattle.grb_core.specs.Entries.{cell_cmp, VectorEntries, MatrixEntries}
use Rattle.grb_core.specs.Written.{both_values}
use Rattle.grb_core.specs.Results.{row_of, column_of}
use Rattle.grb_core.proofs.Maps.{same_entries_at}
use Rattle.grb_kernels.specs.Typed.{entries_of}
use Rattle.grb_ewise.proofs.MatrixRows.{row-sorted}
use Rattle.grb_sums.specs.ColumnSums.{with_values}
use Rattle.grb_semirings.specs.Products.{list_of}
use Rattle.grb_semirings.proofs.Folds.{fold_of-one}
use Rattle.grb_semirings.proofs.Sums.{product_of-products}
use Rattle.grb_sums.specs.Naming.{renamed}
use Rattle.grb_mxm.specs.RowProducts.{product_row}
use Rattle.grb_mxm.proofs.OpenRow.{transposed, find-product_row}
use Rattle.grb_mxm.proofs.ProductRows.{product_row-sorted}
use Rattle.grb_sums.proofs.SummedRow.{found_product}

and : (a b : Bool) → T a → T b → T (a && b)
and true b p q = q
and false b p q = absurd p

fst : (a b : Bool) → T (a && b) → T a
fst true b p = tt
fst false b p = absurd p

snd : (a b : Bool) → T (a && b) → T b
snd true b p = p
snd false b p = absurd p

module _ (f : Value → Value) where
  below-with : (k : ℕ) (m : VectorEntries) → T (below_all nat_cmp k m) → T (below_all nat_cmp k (with_values f m))
  below-with k [] h = tt
  below-with k (e ∷ m) h = and _ _ (fst _ _ h) (below-with k m (snd _ _ h))

  sorted-with : (m : VectorEntries) → T (is_sorted nat_cmp m) → T (is_sorted nat_cmp (with_values f m))
  sorted-with [] h = tt
  sorted-with (e ∷ m) h = and _ _ (below-with e.0 m (fst _ _ h)) (sorted-with m (snd _ _ h))

  find-with : (q : ℕ) (m : VectorEntries) → find nat_cmp q (with_values f m) ≡ option_map f (find nat_cmp q m)
  find-with q [] = refl
  find-with q (e ∷ m) = ap (cond (is_eq (nat_cmp q e.0)) (Some (f e.1))) (find-with q m) ∙ by_test (is_eq (nat_cmp q e.0))
    where
      by_test : (t : Bool) → cond t (Some (f e.1)) (option_map f (find nat_cmp q m)) ≡ option_map f (cond t (Some e.1) (find nat_cmp q m))
      by_test true = refl
      by_test false = refl

  -- one more entry, at the name of its place
  pub scaled_more : (name : ℕ → ℕ) (m : VectorEntries) (p : ℕ) (v : Value) → with_values f (renamed name (m ++ (p, v) ∷ [])) ≡ with_values f (renamed name m) ++ (name p, f v) ∷ []
  scaled_more name [] p v = refl
  scaled_more name (e ∷ m) p v = ap (λ (t : VectorEntries). (name e.0, f e.1) ∷ t) (scaled_more name m p v)

pub all_scaled_more : (P : Value → Type 0) (name : ℕ → ℕ) (m : VectorEntries) (p : ℕ) (v : Value) → AllByRecursion (λ e. P e.1) (renamed name m) → P v → AllByRecursion (λ e. P e.1) (renamed name (m ++ (p, v) ∷ []))
all_scaled_more P name [] p v h is = (is, tt)
all_scaled_more P name (e ∷ m) p v h is = (h.0, all_scaled_more P name m p v h.1 is)

-- a list of one entry
pub one_entry : {V : Type 0} (value : V → Value) (ks : List ℕ) (vs : List V) (x : V) → length ks ≡ 1 → length ks ≡ length vs → x ≡ get_or vs 0 x → entries_of value ks vs ≡ (get_or ks 0 0, value x) ∷ []
one_entry value [] vs x one same is = absurd (omega arith)
one_entry value (k ∷ []) [] x one same is = absurd (omega arith)
one_entry value (k ∷ []) (v ∷ vs) x one same is = ap (λ w. (k, value w) ∷ []) (sym is)
one_entry value (k ∷ l ∷ ks) vs x one same is = absurd (omega arith)

module _ (s : SemiringParts) (k : ℕ) (v : Value) (b : MatrixEntries) (ordered : T (is_sorted cell_cmp b))
    (of_domain : AllByRecursion (λ e. IsValueOf (monoid_domain s.monoid) (value_of_op s.op v e.1)) (row_of k b)) where
  one_product : (w : Option Value) → AllByRecursion (IsValueOf (monoid_domain s.monoid)) (list_of (both_values (value_of_op s.op) (Some v) w))
      → option_map (value_of_op s.op v) w ≡ fold_of_some s.monoid (list_of (both_values (value_of_op s.op) (Some v) w) ++ [])
  one_product None is = refl
  one_product (Some y) is = ap Some (sym (fold_of-one s.monoid (value_of_op s.op v y) is.0))

  -- the row that is picked, each value times its own, is the row of the product
  pub scaled_row : with_values (value_of_op s.op v) (row_of k b) ≡ product_row s ((k, v) ∷ []) b
  scaled_row =
      same_entries_at nat_cmp nat_cmp_total nat_cmp-IsAntisymmetric _ _ (sorted-with (value_of_op s.op v) (row_of k b) (row-sorted k b ordered)) (product_row-sorted s ((k, v) ∷ []) b)
      (λ j.
      find-with (value_of_op s.op v) j (row_of k b)
      ∙ one_product (find nat_cmp j (row_of k b)) (found_product (IsValueOf (monoid_domain s.monoid)) s.op v (row_of k b) j of_domain)
      ∙ ap (λ w. fold_of_some s.monoid (list_of (both_values (value_of_op s.op) (Some v) w) ++ [])) (sym (transposed b k j))
      ∙ sym (product_of-products s ((k, v) ∷ []) (column_of j b) refl)
      ∙ sym (find-product_row s ((k, v) ∷ []) b refl j))
