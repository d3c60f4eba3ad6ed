-- A product where a mask selects it: each row, all rows, and the output that is written.
use Rattle.std.proofs.Common.{◌≡◌, ℕ, zero, suc, ◌<◌, Bool, true, false, cond, List, [], ◌∷◌, refl, sym, ap, subst, ◌∙◌, get_or}
use Rattle.std.specs.Prelude.{◌&&◌, Option, Some, None, is_some, IsTrue, All, map}
use Rattle.std.specs.List.{AllByRecursion}
use Rattle.std.proofs.lemmas.List.Elements.{All-from_recursion, filter_passes}
use Rattle.std.specs.declared.cmp.Ordering.{Ordering}
use Rattle.std.specs.Ordering.{nat_cmp}
use Rattle.std.specs.Cmp.{nat_cmp_total}
use Rattle.std.specs.FinMap.{find, is_sorted, nat_cmp-IsAntisymmetric}
use Rattle.std.specs.FinMap.Entries.{below_all}
use lib.Dec.{T}
use Rattle.grb_core.specs.declared.value.Value.{Value}
use Rattle.grb_core.specs.declared.operator.BinaryOp.{BinaryOp}
use Rattle.grb_core.specs.Fold.{fold_of_some}
use Rattle.grb_core.specs.Semiring.{SemiringParts}
use Rattle.grb_core.specs.Entries.{Cell, cell_cmp, VectorEntries, MatrixEntries, before_entries, map_on, restricted}
use Rattle.grb_core.specs.Mask.{selects, is_selected, is_inside}
use Rattle.grb_core.specs.Written.{written_value, accumulated, written}
use Rattle.grb_core.specs.Results.{row_of, column_of, product_of, mxm_of}
use Rattle.grb_core.proofs.Maps.{cell_cmp_total, cell_cmp-IsAntisymmetric, same_entries_at, find-map_on, is_sorted-map_on}
use Rattle.grb_core.proofs.Edits.{find-restricted}
use Rattle.grb_core.proofs.Written.{find-masked, is_sorted-masked, find-accumulated, accumulated_value}
use Rattle.grb_core.specs.declared.descriptor.Descriptor.{Descriptor}
use Rattle.grb_kernels.specs.Typed.{kept}
use Rattle.grb_ewise.specs.Premises.{LieInside}
use Rattle.grb_ewise.proofs.MatrixRows.{find-row, row-sorted}
use Rattle.grb_semirings.specs.Open.{marked_at}
use Rattle.grb_semirings.specs.Products.{products}
use Rattle.grb_semirings.proofs.Sums.{product_of-products, products-same}
use Rattle.grb_mxm.specs.RowProducts.{picked, product_row}
use Rattle.grb_mxm.specs.Rows.{selected_product, bounding}
use Rattle.grb_mxm.specs.AllowedSums.{AreAmong}
use Rattle.grb_mxm.proofs.OpenRow.{transposed, find-product_row}
use Rattle.grb_mxm.proofs.ProductRows.{sorted-mxm, row_of-mxm, product_row-sorted}
use Rattle.grb_mxm.proofs.MaskedSums.{none_among}

and : (a b : Bool) → T a → T b → T (a && b)
and true b p q = q
and false b p q = absurd p

fst : (a b : Bool) → T (a && b) → T a
fst true b p = tt
fst false b p = absurd p

snd : (a b : Bool) → T (a && b) → T b
snd true b p = p
snd false b p = absurd p

module _ {K : Type 0} (R : K → K → Ordering) where
  below-restricted : (t : K → Bool) (x : K) (m : List (K × Value)) → T (below_all R x m) → T (below_all R x (restricted t m))
  below-restricted t x [] h = tt
  below-restricted t x (e ∷ m) h =
      elim (t e.0) as (λ b. T (below_all R x (cond b (e ∷ restricted t m) (restricted t m)))) [
        | true ↦ and _ _ (fst _ _ h) (below-restricted t x m (snd _ _ h))
        | false ↦ below-restricted t x m (snd _ _ h)
      ]

  -- entries that pass a test are in order
  pub is_sorted-restricted : (t : K → Bool) (m : List (K × Value)) → T (is_sorted R m) → T (is_sorted R (restricted t m))
  is_sorted-restricted t [] h = tt
  is_sorted-restricted t (e ∷ m) h =
      elim (t e.0) as (λ b. T (is_sorted R (cond b (e ∷ restricted t m) (restricted t m)))) [
        | true ↦ and _ _ (below-restricted t e.0 m (fst _ _ h)) (is_sorted-restricted t m (snd _ _ h))
        | false ↦ is_sorted-restricted t m (snd _ _ h)
      ]

unmarked : {V : Type 0} (value : V → Value) (ms : List Bool) (vs : List V) (p : ℕ) → get_or ms p false ≡ false → marked_at value ms vs p ≡ None
unmarked value [] vs p h = refl
unmarked value (m ∷ ms) [] p h = refl
unmarked value (m ∷ ms) (v ∷ vs) zero h = ap (kept (value v)) h
unmarked value (m ∷ ms) (v ∷ vs) (suc p) h = unmarked value ms vs p h

-- what is picked is the map over the names
picked-map_on : (name : ℕ → ℕ) (at : ℕ → Option Value) (f : ℕ → Option Value) (ps : List ℕ) → AllByRecursion (λ p. at p ≡ f (name p)) ps → picked name at ps ≡ map_on (map name ps) f
picked-map_on name at f [] h = refl
picked-map_on name at f (p ∷ ps) h = ap (λ w. before_entries (name p) w (picked name at ps)) h.0 ∙ ap (before_entries (name p) (f (name p))) (picked-map_on name at f ps h.1)

all_of : (P Q : ℕ → Type 0) → ((p : ℕ) → P p → Q p) → (ps : List ℕ) → AllByRecursion P ps → AllByRecursion Q ps
all_of P Q h [] a = tt
all_of P Q h (p ∷ ps) a = (h p a.0, all_of P Q h ps a.1)

module _ {V : Type 0} (value : V → Value) (n : ℕ) (name : ℕ → ℕ) (structure : Bool) (s : SemiringParts) (x : VectorEntries) (b : MatrixEntries) (m : VectorEntries) (x_ordered : IsTrue (is_sorted nat_cmp x)) (m_ordered : IsTrue (is_sorted nat_cmp m))
    (al ms : List Bool) (vs : List V) (ps : List ℕ)
    (allowed : (p : ℕ) → p < n → get_or al p false ≡ selects structure (find nat_cmp (name p) m)) (among : AreAmong ms al)
    (sums : (p : ℕ) → p < n → get_or al p false ≡ true → marked_at value ms vs p ≡ fold_of_some s.monoid (products s.op (λ k. find nat_cmp (name p) (row_of k b)) x)) where
  -- what belongs at a column
  abbrev wanted : ℕ → Option Value
  wanted q = cond (selects structure (find nat_cmp q m)) (product_of s x (column_of q b)) None

  at_place : (p : ℕ) → p < n → marked_at value ms vs p ≡ wanted (name p)
  at_place p l =
      elim (get_or al p false) as (λ a. get_or al p false ≡ a → marked_at value ms vs p ≡ wanted (name p)) [
        | true ↦ λ t.
            sums p l t
            ∙ ap (fold_of_some s.monoid) (products-same s.op (λ k. find nat_cmp (name p) (row_of k b)) (λ k. find nat_cmp k (column_of (name p) b)) (λ k. sym (transposed b k (name p))) x)
            ∙ sym (product_of-products s x (column_of (name p) b) x_ordered)
            ∙ sym (ap (λ a. cond a (product_of s x (column_of (name p) b)) None) (sym (allowed p l) ∙ t))
        | false ↦ λ t.
            unmarked value ms vs p (none_among ms al p among t)
            ∙ sym (ap (λ a. cond a (product_of s x (column_of (name p) b)) None) (sym (allowed p l) ∙ t))
      ] refl

  find-wanted : (q : ℕ) → cond (is_some (find nat_cmp q m)) (wanted q) None ≡ wanted q
  find-wanted q =
      elim (find nat_cmp q m) as (λ w. cond (is_some w) (cond (selects structure w) (product_of s x (column_of q b)) None) None ≡ cond (selects structure w) (product_of s x (column_of q b)) None) [
        | None ↦ refl
        | Some v ↦ refl
      ]

  -- the sums at the places of the mask's row, with the names of the places, are what the mask leaves of the row of the product
  pub picked_row : map name ps ≡ map (λ e. e.0) m → AllByRecursion (λ p. p < n) ps
      → picked name (marked_at value ms vs) ps ≡ restricted (λ j. selects structure (find nat_cmp j m)) (product_row s x b)
  picked_row named below =
      picked-map_on name (marked_at value ms vs) wanted ps (all_of (λ p. p < n) (λ p. marked_at value ms vs p ≡ wanted (name p)) at_place ps below)
      ∙ ap (λ (js : List ℕ). map_on js wanted) named
      ∙ same_entries_at nat_cmp nat_cmp_total nat_cmp-IsAntisymmetric _ _ (is_sorted-map_on nat_cmp wanted m (subst T (sym m_ordered) tt))
      (is_sorted-restricted nat_cmp (λ j. selects structure (find nat_cmp j m)) (product_row s x b) (product_row-sorted s x b))
      (λ q.
      find-map_on nat_cmp nat_cmp-IsAntisymmetric wanted q m
      ∙ find-wanted q
      ∙ ap (λ w. cond (selects structure (find nat_cmp q m)) w None) (sym (find-product_row s x b x_ordered q))
      ∙ sym (find-restricted nat_cmp nat_cmp_total nat_cmp-IsAntisymmetric (λ j. selects structure (find nat_cmp j m)) q (product_row s x b)))

module _ (s : SemiringParts) (structure : Bool) (m a b : MatrixEntries) where
  pub sorted-selected : T (is_sorted cell_cmp (selected_product s structure (Some m) a b))
  sorted-selected = is_sorted-restricted cell_cmp (is_selected cell_cmp structure (Some m)) (mxm_of s a b) (sorted-mxm s a b)

  find-selected : (r j : ℕ) → find nat_cmp j (row_of r (selected_product s structure (Some m) a b)) ≡ cond (selects structure (find nat_cmp j (row_of r m))) (find nat_cmp j (row_of r (mxm_of s a b))) None
  find-selected r j =
      find-row (r, j) (selected_product s structure (Some m) a b)
      ∙ find-restricted cell_cmp cell_cmp_total cell_cmp-IsAntisymmetric (is_selected cell_cmp structure (Some m)) (r, j) (mxm_of s a b)
      ∙ ap (λ w. cond (selects structure w) (find cell_cmp (r, j) (mxm_of s a b)) None) (sym (find-row (r, j) m))
      ∙ ap (λ w. cond (selects structure (find nat_cmp j (row_of r m))) w None) (sym (find-row (r, j) (mxm_of s a b)))

  -- a row of what is left is what is left of the row
  pub row_of-selected : (r : ℕ) → row_of r (selected_product s structure (Some m) a b) ≡ restricted (λ j. selects structure (find nat_cmp j (row_of r m))) (product_row s (row_of r a) b)
  row_of-selected r =
      same_entries_at nat_cmp nat_cmp_total nat_cmp-IsAntisymmetric _ _ (row-sorted r (selected_product s structure (Some m) a b) sorted-selected)
      (is_sorted-restricted nat_cmp (λ j. selects structure (find nat_cmp j (row_of r m))) (product_row s (row_of r a) b) (product_row-sorted s (row_of r a) b))
      (λ j.
      find-selected r j
      ∙ ap (λ (x : VectorEntries). cond (selects structure (find nat_cmp j (row_of r m))) (find nat_cmp j x) None) (row_of-mxm s a b r)
      ∙ sym (find-restricted nat_cmp nat_cmp_total nat_cmp-IsAntisymmetric (λ j. selects structure (find nat_cmp j (row_of r m))) j (product_row s (row_of r a) b)))

  -- where the mask has no entry in a row, nothing is left of it
  pub no_row-selected : (r : ℕ) → row_of r m ≡ [] → row_of r (selected_product s structure (Some m) a b) ≡ []
  no_row-selected r e =
      same_entries_at nat_cmp nat_cmp_total nat_cmp-IsAntisymmetric _ _ (row-sorted r (selected_product s structure (Some m) a b) sorted-selected) tt
      (λ j. find-selected r j ∙ ap (λ (x : VectorEntries). cond (selects structure (find nat_cmp j x)) (find nat_cmp j (row_of r (mxm_of s a b))) None) e)

pub same_value : (i r : Bool) (accum : Option BinaryOp) (c t u : Option Value) → (i ≡ true → t ≡ u) → written_value i r c (accumulated_value accum c t) ≡ written_value i r c (accumulated_value accum c u)
same_value true r accum c t u h = ap (λ w. written_value true r c (accumulated_value accum c w)) (h refl)
same_value false r accum c t u h = refl

-- what is computed outside of the mask changes nothing
pub written-selected : (inside test : Cell → Bool) (replace : Bool) (accum : Option BinaryOp) (c t : MatrixEntries) → ((q : Cell) → inside q ≡ true → test q ≡ true)
    → written cell_cmp inside replace accum c (restricted test t) ≡ written cell_cmp inside replace accum c t
written-selected inside test replace accum c t h =
    same_entries_at cell_cmp cell_cmp_total cell_cmp-IsAntisymmetric _ _ (is_sorted-masked cell_cmp_total cell_cmp-IsAntisymmetric inside replace c (accumulated cell_cmp accum c (restricted test t)))
    (is_sorted-masked cell_cmp_total cell_cmp-IsAntisymmetric inside replace c (accumulated cell_cmp accum c t))
    (λ q.
    at q (restricted test t)
    ∙ same_value (inside q) replace accum (find cell_cmp q c) (find cell_cmp q (restricted test t)) (find cell_cmp q t)
    (λ e. find-restricted cell_cmp cell_cmp_total cell_cmp-IsAntisymmetric test q t ∙ ap (λ b. cond b (find cell_cmp q t) None) (h q e))
    ∙ sym (at q t))
  where
    at : (q : Cell) (u : MatrixEntries) → find cell_cmp q (written cell_cmp inside replace accum c u) ≡ written_value (inside q) replace (find cell_cmp q c) (accumulated_value accum (find cell_cmp q c) (find cell_cmp q u))
    at q u =
        find-masked cell_cmp_total cell_cmp-IsAntisymmetric inside replace q c (accumulated cell_cmp accum c u)
        ∙ ap (λ w. written_value (inside q) replace (find cell_cmp q c) w) (find-accumulated cell_cmp_total cell_cmp-IsAntisymmetric accum q c u)

-- so a product that a mask bounds is written as the whole one
written-bounded : (s : SemiringParts) (structure comp replace : Bool) (accum : Option BinaryOp) (mask : Option MatrixEntries) (c a b : MatrixEntries)
    → written cell_cmp (is_inside cell_cmp structure comp mask) replace accum c (selected_product s structure (bounding comp mask) a b) ≡ written cell_cmp (is_inside cell_cmp structure comp mask) replace accum c (mxm_of s a b)
written-bounded s structure true replace accum mask c a b = refl
written-bounded s structure false replace accum None c a b = refl
written-bounded s structure false replace accum (Some m) c a b = written-selected (is_inside cell_cmp structure false (Some m)) (is_selected cell_cmp structure (Some m)) replace accum c (mxm_of s a b) (λ q e. e)

pass : (m : MatrixEntries) → AllByRecursion (λ e. true ≡ true) m
pass [] = tt
pass (e ∷ m) = (refl, pass m)

-- and where it is not the complement that is meant, nothing of it is outside
bounded-inside : (s : SemiringParts) (structure comp : Bool) (mask : Option MatrixEntries) (a b : MatrixEntries) → comp ≡ false
    → All (λ e. is_inside cell_cmp structure comp mask e.0 ≡ true) (selected_product s structure (bounding comp mask) a b)
bounded-inside s structure true mask a b e = cc
bounded-inside s structure false None a b e = All-from_recursion _ _ (pass (mxm_of s a b))
bounded-inside s structure false (Some m) a b e = filter_passes (λ e. is_selected cell_cmp structure (Some m) e.0) (mxm_of s a b)

-- a product that is bounded by some mask, by the one that bounds it
module _ (s : SemiringParts) (d : Descriptor) (mask bound : Option MatrixEntries) (a b made : MatrixEntries) (is : made ≡ selected_product s d.structure bound a b) (bounds : bound ≡ bounding d.comp mask) where
  made_bounded : made ≡ selected_product s d.structure (bounding d.comp mask) a b
  made_bounded = is ∙ ap (λ m. selected_product s d.structure m a b) bounds

  pub written-made : (accum : Option BinaryOp) (c : MatrixEntries)
      → written cell_cmp (is_inside cell_cmp d.structure d.comp mask) d.replace accum c made ≡ written cell_cmp (is_inside cell_cmp d.structure d.comp mask) d.replace accum c (mxm_of s a b)
  written-made accum c = ap (written cell_cmp (is_inside cell_cmp d.structure d.comp mask) d.replace accum c) made_bounded ∙ written-bounded s d.structure d.comp d.replace accum mask c a b

  pub made-inside : d.comp ≡ false → LieInside cell_cmp mask d made
  made-inside e = subst (λ (m : MatrixEntries). LieInside cell_cmp mask d m) (sym made_bounded) (bounded-inside s d.structure d.comp mask a b e)
