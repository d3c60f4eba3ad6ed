-- The open sums of a row are the definition's row of the product.
use Rattle.std.proofs.Common.{◌≡◌, ℕ, zero, suc, ◌+◌, ◌<◌, ◌≤◌, Bool, true, false, cond, List, [], ◌∷◌, refl, sym, ap, subst, ◌∙◌, arith, length, inl, inr}
use Rattle.std.specs.Prelude.{◌&&◌, ◌⊎◌, Option, Some, None, is_some, IsTrue, map, filter, nat_eq}
use Rattle.std.specs.List.{AllByRecursion}
use Rattle.std.specs.declared.cmp.Ordering.TheVariants.{Less, Equal, Greater}
use Rattle.std.specs.Ordering.{nat_cmp, is_lt, is_eq, eq_by_cmp}
use Rattle.std.specs.Cmp.{nat_cmp_total, nat_cmp_is}
use Rattle.std.specs.FinMap.{find, is_sorted, nat_cmp-IsAntisymmetric}
use Rattle.std.specs.FinMap.Entries.{below_all}
use Rattle.std.proofs.lemmas.Bool.{cases_eq}
use Rattle.std.proofs.lemmas.Bool.Decides.{nat_tests}
use lib.Dec.{T}
use Rattle.grb_core.specs.declared.value.Value.{Value}
use Rattle.grb_core.specs.Fold.{fold_of_some}
use Rattle.grb_core.specs.Semiring.{SemiringParts}
use Rattle.grb_core.specs.Entries.{VectorEntries, MatrixEntries, before_entries}
use Rattle.grb_core.specs.Results.{row_of, column_of, product_of}
use Rattle.grb_core.proofs.Maps.{find-before, is_sorted-before, same_entries_at, find-map_on_indices, is_sorted-map_on_indices}
use Rattle.grb_kernels.specs.Typed.{kept}
use Rattle.grb_semirings.specs.Open.{marked_at}
use Rattle.grb_semirings.specs.Products.{products}
use Rattle.grb_sums.proofs.RowByRow.{same_test, in_its_row, by_its_row, is_in}
use Rattle.grb_semirings.proofs.Sums.{product_of-products, products-same}
use Rattle.grb_sums.specs.Open.{marked_from}
use Rattle.grb_mxm.specs.RowProducts.{product_row}
use Rattle.grb_sums.proofs.Renamed.{RiseBelow}

and : (a b : Bool) → T a → T b → T (a && b)
and true b p q = q
and false b p q = absurd p

less : (p q : ℕ) → p < q → T (is_lt (nat_cmp p q))
less p q h = subst (λ o. T (is_lt o)) (nat_cmp_is p q Less h) tt

other_index : (j c : ℕ) → (c ≡ j → ⊥) → eq_by_cmp nat_cmp j c ≡ false
other_index j c h = grind (arith, nat_tests)

other_column : (j c : ℕ) → (c ≡ j → ⊥) → nat_eq c j ≡ false
other_column j c h = grind (arith, nat_tests)

-- a place of the name, or that there is none
named_or_not : (name : ℕ → ℕ) (q n : ℕ) → ((p : ℕ) × (p < n) × (name p ≡ q)) ⊎ ((p : ℕ) → p < n → name p ≡ q → ⊥)
named_or_not name q zero = inr (λ p l e. absurd (omega arith))
named_or_not name q (suc n) =
    elim (named_or_not name q n) [
      | inl is ↦ inl (is.0, let l = is.1 in omega (arith, l), is.2)
      | inr not ↦ elim (cases_eq (name n) q) [
        | inl e ↦ inl (n, omega arith, e)
        | inr other ↦ inr (λ p l e. elim (cases_eq p n) [ inl at ↦ other (sym (ap name at) ∙ e) | inr under ↦ not p (omega (arith, l, under)) e ])
      ]
    ]

module _ {V : Type 0} (value : V → Value) (n : ℕ) (name : ℕ → ℕ) (rise : RiseBelow n name) where
  below-kept : (k l : ℕ) (w : Option Value) (m : VectorEntries) → k < l → T (below_all nat_cmp k m) → T (below_all nat_cmp k (before_entries l w m))
  below-kept k l None m h g = g
  below-kept k l (Some v) m h g = and _ _ (less k l h) g

  below-marked : (i j : ℕ) (ms : List Bool) (vs : List V) → i < j → j + length ms ≤ n → T (below_all nat_cmp (name i) (marked_from value name j ms vs))
  below-marked i j [] vs h f = tt
  below-marked i j (m ∷ ms) [] h f = tt
  below-marked i j (m ∷ ms) (v ∷ vs) h f =
      below-kept (name i) (name j) (kept (value v) m) (marked_from value name (j + 1) ms vs) (rise i j h (omega arith)) (below-marked i (j + 1) ms vs (omega arith) (omega arith))

  sorted-marked : (j : ℕ) (ms : List Bool) (vs : List V) → j + length ms ≤ n → T (is_sorted nat_cmp (marked_from value name j ms vs))
  sorted-marked j [] vs f = tt
  sorted-marked j (m ∷ ms) [] f = tt
  sorted-marked j (m ∷ ms) (v ∷ vs) f =
      is_sorted-before nat_cmp (name j) (kept (value v) m) (marked_from value name (j + 1) ms vs) (below-marked j (j + 1) ms vs (omega arith) (omega arith)) (sorted-marked (j + 1) ms vs (omega arith))

  find-here : (q j : ℕ) (m : Bool) (v : V) (ms : List Bool) (vs : List V) → j + length (m ∷ ms) ≤ n
      → find nat_cmp q (marked_from value name j (m ∷ ms) (v ∷ vs)) ≡ cond (eq_by_cmp nat_cmp q (name j)) (kept (value v) m) (find nat_cmp q (marked_from value name (j + 1) ms vs))
  find-here q j m v ms vs f = find-before nat_cmp nat_cmp_total (name j) q (kept (value v) m) (marked_from value name (j + 1) ms vs) (below-marked j (j + 1) ms vs (omega arith) (omega arith))

  -- what is stored at the name of a place is what is marked there
  find-marked : (ms : List Bool) (vs : List V) (j p k : ℕ) → k ≡ j + p → p < length ms → j + length ms ≤ n → find nat_cmp (name k) (marked_from value name j ms vs) ≡ marked_at value ms vs p
  find-marked [] vs j p k e l f = absurd (omega arith)
  find-marked (m ∷ ms) [] j p k e l f = refl
  find-marked (m ∷ ms) (v ∷ vs) j zero k e l f =
      find-here (name k) j m v ms vs f
      ∙ ap (λ r. cond (is_eq r) (kept (value v) m) (find nat_cmp (name k) (marked_from value name (j + 1) ms vs))) (sym (nat_cmp_is (name k) (name j) Equal (ap name (let tied : k ≡ j = omega arith in tied))))
  find-marked (m ∷ ms) (v ∷ vs) j (suc p) k e l f =
      find-here (name k) j m v ms vs f
      ∙ ap (λ r. cond (is_eq r) (kept (value v) m) (find nat_cmp (name k) (marked_from value name (j + 1) ms vs))) (sym (nat_cmp_is (name k) (name j) Greater (rise j k (omega arith) (omega arith))))
      ∙ find-marked ms vs (j + 1) p k (omega arith) (omega arith) (omega arith)

  -- and nothing is stored at what is no name
  find-unnamed : (ms : List Bool) (vs : List V) (j q : ℕ) → ((p : ℕ) → p < n → name p ≡ q → ⊥) → j + length ms ≤ n → find nat_cmp q (marked_from value name j ms vs) ≡ None
  find-unnamed [] vs j q h f = refl
  find-unnamed (m ∷ ms) [] j q h f = refl
  find-unnamed (m ∷ ms) (v ∷ vs) j q h f =
      find-here q j m v ms vs f
      ∙ ap (λ b. cond b (kept (value v) m) (find nat_cmp q (marked_from value name (j + 1) ms vs))) (other_index q (name j) (h j (omega arith)))
      ∙ find-unnamed ms vs (j + 1) q h (omega arith)

abbrev is_in_column : ℕ → (ℕ × ℕ) × Value → Bool
is_in_column j e = nat_eq e.0.1 j

module _ (k j : ℕ) (e : (ℕ × ℕ) × Value) (F G : MatrixEntries) (rest : find nat_cmp k (map by_its_row F) ≡ find nat_cmp j (map in_its_row G)) where
  one_entry : (p r : Bool) → eq_by_cmp nat_cmp j e.0.1 ≡ p → eq_by_cmp nat_cmp k e.0.0 ≡ r
      → find nat_cmp k (map by_its_row (cond p (e ∷ F) F)) ≡ find nat_cmp j (map in_its_row (cond r (e ∷ G) G))
  one_entry true true ep er = ap (λ b. cond b (Some e.1) (find nat_cmp k (map by_its_row F))) er ∙ sym (ap (λ b. cond b (Some e.1) (find nat_cmp j (map in_its_row G))) ep)
  one_entry true false ep er = ap (λ b. cond b (Some e.1) (find nat_cmp k (map by_its_row F))) er ∙ rest
  one_entry false true ep er = rest ∙ sym (ap (λ b. cond b (Some e.1) (find nat_cmp j (map in_its_row G))) ep)
  one_entry false false ep er = rest

-- a column at a row is the row at the column
pub transposed : (b : MatrixEntries) (k j : ℕ) → find nat_cmp k (column_of j b) ≡ find nat_cmp j (row_of k b)
transposed [] k j = refl
transposed (e ∷ b) k j =
    ap (λ p. find nat_cmp k (map by_its_row (cond p (e ∷ filter (is_in_column j) b) (filter (is_in_column j) b)))) (same_test j e.0.1)
    ∙ one_entry k j e (filter (is_in_column j) b) (filter (is_in k) b) (transposed b k j) (eq_by_cmp nat_cmp j e.0.1) (eq_by_cmp nat_cmp k e.0.0) refl refl
    ∙ sym (ap (λ r. find nat_cmp j (map in_its_row (cond r (e ∷ filter (is_in k) b) (filter (is_in k) b)))) (same_test k e.0.0))

column_of-none : (j : ℕ) (b : MatrixEntries) → find nat_cmp j (map in_its_row b) ≡ None → column_of j b ≡ []
column_of-none j [] h = refl
column_of-none j (e ∷ b) h =
    ap (λ p. map by_its_row (cond p (e ∷ filter (is_in_column j) b) (filter (is_in_column j) b))) (same_test j e.0.1)
    ∙ elim (eq_by_cmp nat_cmp j e.0.1) as (λ p. cond p (Some e.1) (find nat_cmp j (map in_its_row b)) ≡ None → map by_its_row (cond p (e ∷ filter (is_in_column j) b) (filter (is_in_column j) b)) ≡ []) [
      | true ↦ λ (n : Some e.1 ≡ None). cc
      | false ↦ λ n. column_of-none j b n
    ] h

-- a column that is no name stores nothing
column-unnamed : (name : ℕ → ℕ) (n j : ℕ) (ranks : List ℕ) (b : MatrixEntries) → map name ranks ≡ map (λ e. e.0.1) b → AllByRecursion (λ r. r < n) ranks → ((p : ℕ) → p < n → name p ≡ j → ⊥) → column_of j b ≡ []
column-unnamed name n j ranks [] e h none = refl
column-unnamed name n j [] (d ∷ b) e h none = absurd (differ e)
  where
    differ : [] ≡ d.0.1 ∷ map (λ (e : (ℕ × ℕ) × Value). e.0.1) b → ⊥
    differ e = cc
column-unnamed name n j (r ∷ ranks) (d ∷ b) e h none =
    let here : name r ≡ d.0.1 = head e in
    ap (λ p. map by_its_row (cond p (d ∷ filter (is_in_column j) b) (filter (is_in_column j) b))) (other_column j d.0.1 (λ at. none r h.0 (here ∙ at)))
    ∙ column-unnamed name n j ranks b (rest e) h.1 none
  where
    head : {x y : ℕ} {xs ys : List ℕ} → x ∷ xs ≡ y ∷ ys → x ≡ y
    head e = cc

    rest : {x y : ℕ} {xs ys : List ℕ} → x ∷ xs ≡ y ∷ ys → xs ≡ ys
    rest e = cc

-- the product of a row with a column that stores nothing is nothing
pub product_of-nothing : (s : SemiringParts) (x : VectorEntries) → IsTrue (is_sorted nat_cmp x) → product_of s x [] ≡ None
product_of-nothing s x h = product_of-products s x [] h ∙ ap (fold_of_some s.monoid) (no_products x)
  where
    no_products : (x : VectorEntries) → products s.op (λ j. None) x ≡ []
    no_products [] = refl
    no_products (e ∷ x) = no_products x

pub find-product_row : (s : SemiringParts) (x : VectorEntries) (b : MatrixEntries) → IsTrue (is_sorted nat_cmp x) → (j : ℕ) → find nat_cmp j (product_row s x b) ≡ product_of s x (column_of j b)
find-product_row s x b h j =
    find-map_on_indices nat_cmp nat_cmp_total nat_cmp-IsAntisymmetric (λ l. product_of s x (column_of l b)) j (map in_its_row b)
    ∙ elim (find nat_cmp j (map in_its_row b)) as (λ w. find nat_cmp j (map in_its_row b) ≡ w → cond (is_some w) (product_of s x (column_of j b)) None ≡ product_of s x (column_of j b)) [
      | None ↦ λ t. sym (ap (product_of s x) (column_of-none j b t) ∙ product_of-nothing s x h)
      | Some v ↦ λ t. refl
    ] refl

-- sums that lie open, each that of its column, are the row of the product
pub open_row : {V : Type 0} (value : V → Value) (n : ℕ) (name : ℕ → ℕ) (ranks : List ℕ) (ms : List Bool) (vs : List V) (s : SemiringParts) (x : VectorEntries) (b : MatrixEntries) → RiseBelow n name → IsTrue (is_sorted nat_cmp x)
    → length ms ≡ n → map name ranks ≡ map (λ e. e.0.1) b → AllByRecursion (λ r. r < n) ranks
    → ((p : ℕ) → p < n → marked_at value ms vs p ≡ fold_of_some s.monoid (products s.op (λ k. find nat_cmp (name p) (row_of k b)) x))
    → marked_from value name 0 ms vs ≡ product_row s x b
open_row value n name ranks ms vs s x b rise h long named below sums =
    same_entries_at nat_cmp nat_cmp_total nat_cmp-IsAntisymmetric _ _ (sorted-marked value n name rise 0 ms vs (omega arith))
    (is_sorted-map_on_indices nat_cmp nat_cmp_total (λ j. product_of s x (column_of j b)) (map in_its_row b))
    (λ q. at q (named_or_not name q n) ∙ sym (find-product_row s x b h q))
  where
    at_name : (p : ℕ) → p < n → find nat_cmp (name p) (marked_from value name 0 ms vs) ≡ product_of s x (column_of (name p) b)
    at_name p l =
        find-marked value n name rise ms vs 0 p p (omega arith) (omega (arith, l, long)) (omega (arith, long))
        ∙ sums p l
        ∙ ap (fold_of_some s.monoid) (products-same s.op (λ k. find nat_cmp (name p) (row_of k b)) (λ k. find nat_cmp k (column_of (name p) b)) (λ k. sym (transposed b k (name p))) x)
        ∙ sym (product_of-products s x (column_of (name p) b) h)

    at : (q : ℕ) → ((p : ℕ) × (p < n) × (name p ≡ q)) ⊎ ((p : ℕ) → p < n → name p ≡ q → ⊥) → find nat_cmp q (marked_from value name 0 ms vs) ≡ product_of s x (column_of q b)
    at q (inl is) = subst (λ j. find nat_cmp j (marked_from value name 0 ms vs) ≡ product_of s x (column_of j b)) is.2 (at_name is.0 is.1)
    at q (inr none) =
        find-unnamed value n name rise ms vs 0 q none (omega (arith, long))
        ∙ sym (ap (product_of s x) (column-unnamed name n q ranks b named below none) ∙ product_of-nothing s x h)
