-- The laws of results: in either order, and that what is made is in order, within, and of its domain.
use Rattle.std.proofs.Common.{◌≡◌, ◌<◌, ℕ, Bool, true, false, List, refl, sym, ap, subst, ◌∙◌}
use Rattle.grb_core.proofs.Prelude.{IsTrue, map, Option, Some, None, is_some, AllByRecursion, Ordering, nat_cmp, IsTotalOrder, nat_cmp_total, find, is_sorted, IsAntisymmetric, nat_cmp-IsAntisymmetric, All-from_recursion, recursion_from_All, BinaryOp, Value, IsValueOf, op_domain, value_of_op, monoid_domain, fold_of_some, Cell, cell_cmp, VectorEntries, MatrixEntries, map_on, values_of, SemiringParts, either_value, both_values, AccumulatesIn, accumulated, ewise_add, ewise_mult, row_of, column_of, rows_of, columns_of, cells_between, product_of, transposed, mxm_of, Commutes, MonoidsCommute, EwiseInEitherOrder, IsCellBelow, AreEntries, EwiseMakesEntries, WrittenMakesEntries, MxvMakesEntries, MxmMakesEntries, ReduceRowsMakesEntries, ReduceMakesValue}
use lib.Dec.{T}
use Rattle.grb_core.specs.declared.domain.Domain.{Domain}
use Rattle.grb_core.specs.declared.domain.Domain.TheVariants as domain
use Rattle.grb_core.specs.declared.value.Value.TheVariants as value
use Rattle.grb_core.proofs.MonoidLaws.{monoid_laws}
use Rattle.grb_core.proofs.Folds.{fold_of-is}
use Rattle.grb_core.proofs.Maps.{cell_cmp_total, cell_cmp-IsAntisymmetric, same_entries_at, is_sorted-map_on_indices}
use Rattle.grb_core.proofs.Written.{find-pointwise, is_sorted-pointwise, is_sorted-masked}
use Rattle.grb_core.proofs.Made.{Holds, holds_either, holds_both, holds_fold, all-weaker, within-map_on, of-map_on, of-find, within-pointwise, of-pointwise, within-masked, of-masked, of-values, of-row, of-column, within-rows, within-columns, within-cells, op_closed}
use Rattle.grb_core.proofs.Gridded.{is_sorted-cells}
use Rattle.grb_core.specs.TransposeLaws.{ReducedColumns, StoresRowsOf, TransposedMakesEntries, TransposedProduct, VxmIsMxv, VxmMakesEntries, second_of}
use Rattle.grb_core.proofs.Crossed.{find_mxm}
use Rattle.grb_core.proofs.Transposes.{all_transposed, each_column_is, find_column, sorted_column, transposed_columns, transposed_rows, transposed_sorted, transposed_stores, vxm_exchanged}

pub monoids_commute : MonoidsCommute
monoids_commute m a b g h = (monoid_laws m).commutative a b g h

pub passed : (b : Bool) → IsTrue b → T b
passed true h = tt
passed false h = cc

passes : (b : Bool) → T b → IsTrue b
passes true h = refl
passes false h = absurd h

either_way : (op : BinaryOp) → Commutes op → (x y : Option Value) → Holds (IsValueOf (op_domain op)) x → Holds (IsValueOf (op_domain op)) y →
    either_value (value_of_op op) x y ≡ either_value (value_of_op op) y x
either_way op commutes None None g h = refl
either_way op commutes None (Some y) g h = refl
either_way op commutes (Some x) None g h = refl
either_way op commutes (Some x) (Some y) g h = ap Some (commutes x y g h)

both_ways : (op : BinaryOp) → Commutes op → (x y : Option Value) → Holds (IsValueOf (op_domain op)) x → Holds (IsValueOf (op_domain op)) y →
    both_values (value_of_op op) x y ≡ both_values (value_of_op op) y x
both_ways op commutes None None g h = refl
both_ways op commutes None (Some y) g h = refl
both_ways op commutes (Some x) None g h = refl
both_ways op commutes (Some x) (Some y) g h = ap Some (commutes x y g h)

module _ {K : Type 0} (R : K → K → Ordering) (o : IsTotalOrder R) (same : IsAntisymmetric R) where
  pub ewise_in_either_order : EwiseInEitherOrder R
  ewise_in_either_order op a b commutes g h =
      let of_a = recursion_from_All (λ (e : K × Value). IsValueOf (op_domain op) e.1) a g in
      let of_b = recursion_from_All (λ (e : K × Value). IsValueOf (op_domain op) e.1) b h in (
        same_entries_at R o same (ewise_add R op a b) (ewise_add R op b a)
            (is_sorted-pointwise o same (either_value (value_of_op op)) a b) (is_sorted-pointwise o same (either_value (value_of_op op)) b a)
            (λ q. find-pointwise o same (either_value (value_of_op op)) refl q a b
            ∙ either_way op commutes (find R q a) (find R q b) (of-find R (IsValueOf (op_domain op)) q a of_a) (of-find R (IsValueOf (op_domain op)) q b of_b)
            ∙ sym (find-pointwise o same (either_value (value_of_op op)) refl q b a)),
        same_entries_at R o same (ewise_mult R op a b) (ewise_mult R op b a)
            (is_sorted-pointwise o same (both_values (value_of_op op)) a b) (is_sorted-pointwise o same (both_values (value_of_op op)) b a)
            (λ q. find-pointwise o same (both_values (value_of_op op)) refl q a b
            ∙ both_ways op commutes (find R q a) (find R q b) (of-find R (IsValueOf (op_domain op)) q a of_a) (of-find R (IsValueOf (op_domain op)) q b of_b)
            ∙ sym (find-pointwise o same (both_values (value_of_op op)) refl q b a)),
      )

  module _ (Within : K → Type 0) where
    entries_within : {domain : Domain} {m : List (K × Value)} → AreEntries R Within domain m → AllByRecursion (λ e. Within e.0) m
    entries_within {domain} {m} is = recursion_from_All (λ (e : K × Value). Within e.0) m is.within

    entries_of : {domain : Domain} {m : List (K × Value)} → AreEntries R Within domain m → AllByRecursion (λ e. IsValueOf domain e.1) m
    entries_of {domain} {m} is = recursion_from_All (λ (e : K × Value). IsValueOf domain e.1) m is.of_domain

    made : (domain : Domain) (m : List (K × Value)) → T (is_sorted R m) → AllByRecursion (λ e. Within e.0) m → AllByRecursion (λ e. IsValueOf domain e.1) m → AreEntries R Within domain m
    made domain m s w v = record {
      ordered = passes _ s;
      within = All-from_recursion (λ (e : K × Value). Within e.0) m w;
      of_domain = All-from_recursion (λ (e : K × Value). IsValueOf domain e.1) m v;
    }

    pub ewise_makes_entries : EwiseMakesEntries R Within
    ewise_makes_entries op a b g h = (
      made (op_domain op) (ewise_add R op a b) (is_sorted-pointwise o same (either_value (value_of_op op)) a b)
          (within-pointwise R Within (either_value (value_of_op op)) a b (entries_within g) (entries_within h))
          (of-pointwise R (IsValueOf (op_domain op)) (either_value (value_of_op op)) (holds_either (IsValueOf (op_domain op)) (value_of_op op) (op_closed op)) a b (entries_of g) (entries_of h)),
      made (op_domain op) (ewise_mult R op a b) (is_sorted-pointwise o same (both_values (value_of_op op)) a b)
          (within-pointwise R Within (both_values (value_of_op op)) a b (entries_within g) (entries_within h))
          (of-pointwise R (IsValueOf (op_domain op)) (both_values (value_of_op op)) (holds_both (IsValueOf (op_domain op)) (value_of_op op) (op_closed op)) a b (entries_of g) (entries_of h)),
    )

    accumulated_is : (domain : Domain) (accum : Option BinaryOp) (c t : List (K × Value)) → AccumulatesIn domain accum → AreEntries R Within domain c → AreEntries R Within domain t
        → AreEntries R Within domain (accumulated R accum c t)
    accumulated_is domain None c t d g h = h
    accumulated_is domain (Some op) c t d g h =
        subst (λ x. AreEntries R Within x (ewise_add R op c t)) d
        (ewise_makes_entries op c t (subst (λ x. AreEntries R Within x c) (sym d) g) (subst (λ x. AreEntries R Within x t) (sym d) h)).0

    pub written_makes_entries : WrittenMakesEntries R Within
    written_makes_entries domain inside replace accum c t d g h =
        let z = accumulated R accum c t in
        let is = accumulated_is domain accum c t d g h in
        made domain _ (is_sorted-masked o same inside replace c z)
        (within-masked R Within inside replace c z (entries_within g) (entries_within is))
        (of-masked R (IsValueOf domain) inside replace c z (entries_of g) (entries_of is))

product_is : (s : SemiringParts) (x y : VectorEntries) → monoid_domain s.monoid ≡ op_domain s.op
    → AllByRecursion (λ e. IsValueOf (op_domain s.op) e.1) x → AllByRecursion (λ e. IsValueOf (op_domain s.op) e.1) y → Holds (IsValueOf (op_domain s.op)) (product_of s x y)
product_is s x y d g h =
    let is = of-values (IsValueOf (op_domain s.op)) (ewise_mult nat_cmp s.op x y)
    (of-pointwise nat_cmp (IsValueOf (op_domain s.op)) (both_values (value_of_op s.op)) (holds_both (IsValueOf (op_domain s.op)) (value_of_op s.op) (op_closed s.op)) x y g h) in
    subst (λ w. Holds (IsValueOf w) (fold_of_some s.monoid (values_of (ewise_mult nat_cmp s.op x y)))) d
    (holds_fold s.monoid (values_of (ewise_mult nat_cmp s.op x y)) (subst (λ w. AllByRecursion (IsValueOf w) (values_of (ewise_mult nat_cmp s.op x y))) (sym d) is))

-- the parts of what is known of a matrix's entries
module _ (nrows ncols : ℕ) (domain : Domain) (a : MatrixEntries) (is : AreEntries cell_cmp (IsCellBelow nrows ncols) domain a) where
  row_below : AllByRecursion (λ e. e.0.0 < nrows) a
  row_below = all-weaker (λ (e : Cell × Value). e.0.0 < nrows) (λ e. (e.0.0 < nrows) × (e.0.1 < ncols)) (λ e h. h.0) a (recursion_from_All _ a is.within)

  column_below : AllByRecursion (λ e. e.0.1 < ncols) a
  column_below = all-weaker (λ (e : Cell × Value). e.0.1 < ncols) (λ e. (e.0.0 < nrows) × (e.0.1 < ncols)) (λ e h. h.1) a (recursion_from_All _ a is.within)

  values_is : AllByRecursion (λ e. IsValueOf domain e.1) a
  values_is = recursion_from_All _ a is.of_domain

pub mxv_makes_entries : MxvMakesEntries
mxv_makes_entries nrows ncols s a u d g h =
    record {
      ordered = passes _ (is_sorted-map_on_indices nat_cmp nat_cmp_total (λ i. product_of s (row_of i a) u) (map (λ e. (e.0.0, e.1)) a));
      within = All-from_recursion (λ (e : ℕ × Value). e.0 < nrows) _
          (within-map_on (λ i. i < nrows) (λ i. product_of s (row_of i a) u) (rows_of a) (within-rows (λ i. i < nrows) a (row_below nrows ncols _ a g)));
      of_domain = All-from_recursion (λ (e : ℕ × Value). IsValueOf (op_domain s.op) e.1) _
          (of-map_on (IsValueOf (op_domain s.op)) (λ i. product_of s (row_of i a) u)
          (λ i. product_is s (row_of i a) u d (of-row (IsValueOf (op_domain s.op)) i a (values_is nrows ncols _ a g)) (recursion_from_All _ u h.of_domain)) (rows_of a));
    }

pub mxm_makes_entries : MxmMakesEntries
mxm_makes_entries nrows inner ncols s a b d g h =
    record {
      ordered = passes _ (is_sorted-cells a b (λ cell. product_of s (row_of cell.0 a) (column_of cell.1 b)));
      within = All-from_recursion (λ (e : Cell × Value). (e.0.0 < nrows) × (e.0.1 < ncols)) _
          (within-map_on (λ (cell : Cell). (cell.0 < nrows) × (cell.1 < ncols)) (λ cell. product_of s (row_of cell.0 a) (column_of cell.1 b)) (cells_between (rows_of a) (columns_of b))
          (within-cells (λ i. i < nrows) (λ j. j < ncols) (rows_of a) (columns_of b)
          (within-rows (λ i. i < nrows) a (row_below nrows inner _ a g)) (within-columns (λ j. j < ncols) b (column_below inner ncols _ b h))));
      of_domain = All-from_recursion (λ (e : Cell × Value). IsValueOf (op_domain s.op) e.1) _
          (of-map_on (IsValueOf (op_domain s.op)) (λ cell. product_of s (row_of cell.0 a) (column_of cell.1 b))
          (λ cell. product_is s (row_of cell.0 a) (column_of cell.1 b) d (of-row (IsValueOf (op_domain s.op)) cell.0 a (values_is nrows inner _ a g)) (of-column (IsValueOf (op_domain s.op)) cell.1 b (values_is inner ncols _ b h)))
          (cells_between (rows_of a) (columns_of b)));
    }

pub reduce_rows_makes_entries : ReduceRowsMakesEntries
reduce_rows_makes_entries nrows ncols m a g =
    record {
      ordered = passes _ (is_sorted-map_on_indices nat_cmp nat_cmp_total (λ i. fold_of_some m (values_of (row_of i a))) (map (λ e. (e.0.0, e.1)) a));
      within = All-from_recursion (λ (e : ℕ × Value). e.0 < nrows) _
          (within-map_on (λ i. i < nrows) (λ i. fold_of_some m (values_of (row_of i a))) (rows_of a) (within-rows (λ i. i < nrows) a (row_below nrows ncols _ a g)));
      of_domain = All-from_recursion (λ (e : ℕ × Value). IsValueOf (monoid_domain m) e.1) _
          (of-map_on (IsValueOf (monoid_domain m)) (λ i. fold_of_some m (values_of (row_of i a)))
          (λ i. holds_fold m (values_of (row_of i a)) (of-values (IsValueOf (monoid_domain m)) (row_of i a) (of-row (IsValueOf (monoid_domain m)) i a (values_is nrows ncols _ a g)))) (rows_of a));
    }

pub reduce_makes_value : ReduceMakesValue
reduce_makes_value m = (
  λ u h. fold_of-is m (values_of u) (of-values (IsValueOf (monoid_domain m)) u (recursion_from_All _ u h)),
  λ a h. fold_of-is m (values_of a) (of-values (IsValueOf (monoid_domain m)) a (recursion_from_All _ a h)),
)

-- a transposed matrix, and vxm
pub transposed_makes_entries : TransposedMakesEntries
transposed_makes_entries nrows ncols domain a is =
    record {
      ordered = passes _ (transposed_sorted a);
      within = All-from_recursion (λ (e : Cell × Value). (e.0.0 < ncols) × (e.0.1 < nrows)) _
          (all_transposed (λ e. (e.0.0 < nrows) × (e.0.1 < ncols)) (λ e. (e.0.0 < ncols) × (e.0.1 < nrows)) (λ e h. (h.1, h.0)) a (recursion_from_All _ a is.within));
      of_domain = All-from_recursion (λ (e : Cell × Value). IsValueOf domain e.1) _
          (all_transposed (λ e. IsValueOf domain e.1) (λ e. IsValueOf domain e.1) (λ e h. h) a (values_is nrows ncols domain a is));
    }

pub vxm_makes_entries : VxmMakesEntries
vxm_makes_entries nrows ncols s u a d g h =
    record {
      ordered = passes _ (is_sorted-map_on_indices nat_cmp nat_cmp_total (λ j. product_of s u (column_of j a)) (map (λ e. (e.0.1, e.1)) a));
      within = All-from_recursion (λ (e : ℕ × Value). e.0 < ncols) _
          (within-map_on (λ j. j < ncols) (λ j. product_of s u (column_of j a)) (columns_of a) (within-columns (λ j. j < ncols) a (column_below nrows ncols _ a h)));
      of_domain = All-from_recursion (λ (e : ℕ × Value). IsValueOf (op_domain s.op) e.1) _
          (of-map_on (IsValueOf (op_domain s.op)) (λ j. product_of s u (column_of j a))
          (λ j. product_is s u (column_of j a) d (recursion_from_All _ u g.of_domain) (of-column (IsValueOf (op_domain s.op)) j a (values_is nrows ncols _ a h))) (columns_of a));
    }

-- where multiply commutes, vxm is mxv of the transposed
pub vxm_is_mxv : VxmIsMxv
vxm_is_mxv s u a ordered commutes of_u of_a =
    let sorted = passed _ ordered in
    let t : MatrixEntries = transposed a in
    let values : AllByRecursion (λ (e : Cell × Value). IsValueOf (op_domain s.op) e.1) t = all_transposed (λ e. IsValueOf (op_domain s.op) e.1) (λ e. IsValueOf (op_domain s.op) e.1) (λ e h. h) a (recursion_from_All _ a of_a) in
    let turned : (j : ℕ) → product_of s u (row_of j t) ≡ product_of s (row_of j t) u =
    λ j. ap (λ (z : VectorEntries). fold_of_some s.monoid (values_of z))
    (ewise_in_either_order nat_cmp nat_cmp_total nat_cmp-IsAntisymmetric s.op u (row_of j t) commutes of_u (All-from_recursion (λ (e : ℕ × Value). IsValueOf (op_domain s.op) e.1) _ (of-row (IsValueOf (op_domain s.op)) j t values))).1 in
    vxm_exchanged s u a sorted ∙ ap (map_on (rows_of t)) (λ i j. turned j i)

pub transposed_product : TransposedProduct
transposed_product s a b sorted_a sorted_b commutes of_a of_b =
    let h = passed _ sorted_a in
    let g = passed _ sorted_b in
    let turned : (i j : ℕ) → product_of s (row_of i a) (column_of j b) ≡ product_of s (column_of j b) (row_of i a) =
    λ i j. ap (λ (z : VectorEntries). fold_of_some s.monoid (values_of z))
    (ewise_in_either_order nat_cmp nat_cmp_total nat_cmp-IsAntisymmetric s.op (row_of i a) (column_of j b) commutes
    (All-from_recursion (λ (e : ℕ × Value). IsValueOf (op_domain s.op) e.1) _ (of-row (IsValueOf (op_domain s.op)) i a (recursion_from_All _ a of_a)))
    (All-from_recursion (λ (e : ℕ × Value). IsValueOf (op_domain s.op) e.1) _ (of-column (IsValueOf (op_domain s.op)) j b (recursion_from_All _ b of_b)))).1 in
    same_entries_at cell_cmp cell_cmp_total cell_cmp-IsAntisymmetric (transposed (mxm_of s a b)) (mxm_of s (transposed b) (transposed a))
    (transposed_sorted (mxm_of s a b)) (is_sorted-cells (transposed b) (transposed a) (λ cell. product_of s (row_of cell.0 (transposed b)) (column_of cell.1 (transposed a))))
    (λ q. transposed_stores (mxm_of s a b) q.1 q.0 ∙ (find_mxm s a b q.1 q.0 ∙ (turned q.1 q.0
    ∙ (ap (λ (x : VectorEntries). product_of s x (row_of q.1 a)) (sym (transposed_rows b q.0 g))
    ∙ (ap (λ (x : VectorEntries). product_of s (row_of q.0 (transposed b)) x) (sym (transposed_columns a q.1 h))
    ∙ sym (find_mxm s (transposed b) (transposed a) q.0 q.1))))))

second_is : (d : Domain) (x y : Value) → IsValueOf d x → IsValueOf d y → value_of_op (second_of d) x y ≡ y
second_is domain.Bool (value.Bool x) (value.Bool y) h g = refl
second_is domain.Uint64 (value.Uint64 x) (value.Uint64 y) h g = refl
second_is domain.Bool (value.Uint64 x) y h g = absurd h
second_is domain.Bool (value.Bool x) (value.Uint64 y) h g = absurd g
second_is domain.Uint64 (value.Bool x) y h g = absurd h
second_is domain.Uint64 (value.Uint64 x) (value.Bool y) h g = absurd g

second_at : (d : Domain) (x y : Option Value) → Holds (IsValueOf d) x → Holds (IsValueOf d) y → (IsTrue (is_some y) → IsTrue (is_some x)) → both_values (value_of_op (second_of d)) x y ≡ y
second_at d (Some x) (Some y) h g there = ap (λ (v : Value). Some v) (second_is d x y h g)
second_at d None (Some y) h g there = let no : IsTrue false = there refl in cc
second_at d (Some x) None h g there = refl
second_at d None None h g there = refl

-- a column, multiplied so by a vector that stores something at each of its rows, is the column
second_column : (d : Domain) (u : VectorEntries) (a : MatrixEntries) (j : ℕ) → T (is_sorted cell_cmp a) → StoresRowsOf u a → AllByRecursion (λ e. IsValueOf d e.1) u → AllByRecursion (λ e. IsValueOf d e.1) a
    → ewise_mult nat_cmp (second_of d) u (column_of j a) ≡ column_of j a
second_column d u a j sorted there of_u of_a =
    let f : Option Value → Option Value → Option Value = both_values (value_of_op (second_of d)) in
    same_entries_at nat_cmp nat_cmp_total nat_cmp-IsAntisymmetric (ewise_mult nat_cmp (second_of d) u (column_of j a)) (column_of j a)
    (is_sorted-pointwise nat_cmp_total nat_cmp-IsAntisymmetric f u (column_of j a)) (sorted_column j a sorted)
    (λ k. find-pointwise nat_cmp_total nat_cmp-IsAntisymmetric f refl k u (column_of j a)
    ∙ second_at d (find nat_cmp k u) (find nat_cmp k (column_of j a)) (of-find nat_cmp (IsValueOf d) k u of_u) (of-find nat_cmp (IsValueOf d) k (column_of j a) (of-column (IsValueOf d) j a of_a))
    (λ t. there k j (subst (λ (o : Option Value). IsTrue (is_some o)) (find_column j k a) t)))

pub reduced_columns : ReducedColumns
reduced_columns m u a ordered there of_u of_a =
    let sorted = passed _ ordered in
    let same : (j : ℕ) → fold_of_some m (values_of (column_of j a)) ≡ product_of (record { monoid = m; op = second_of (monoid_domain m) }) u (column_of j a) =
    λ j. ap (λ (z : VectorEntries). fold_of_some m (values_of z)) (sym (second_column (monoid_domain m) u a j sorted there (recursion_from_All _ u of_u) (recursion_from_All _ a of_a))) in
    sym (each_column_is (λ x. fold_of_some m (values_of x)) a sorted) ∙ ap (map_on (columns_of a)) (λ i j. same j i)
