-- The rows of a Kronecker product.
use Rattle.std.proofs.Common.{◌≡◌, ℕ, ◌*◌, ◌/◌, ◌%◌, ◌<◌, ◌≤◌, true, false, cond, [], ◌∷◌, sym, ap, ◌∙◌, arith, inl, inr}
use Rattle.std.specs.Prelude.{Option, map, filter, nat_eq}
use Rattle.std.specs.List.{AllByRecursion}
use Rattle.std.specs.Ordering.{nat_cmp}
use Rattle.std.specs.Cmp.{nat_cmp_total}
use Rattle.std.specs.FinMap.{find, nat_cmp-IsAntisymmetric}
use Rattle.std.proofs.lemmas.Bool.{cases_lt}
use Rattle.std.proofs.lemmas.List.Elements.{recursion_from_All}
use Rattle.std.proofs.lemmas.Nat.{le-div}
use Rattle.grb_core.specs.declared.value.Value.{Value}
use Rattle.grb_core.specs.declared.operator.BinaryOp.{BinaryOp}
use Rattle.grb_core.specs.Operator.{value_of_op}
use Rattle.grb_core.specs.Entries.{Cell, cell_cmp, MatrixEntries}
use Rattle.grb_core.specs.Results.{row_of}
use Rattle.grb_core.specs.Written.{both_values}
use Rattle.grb_core.proofs.Maps.{same_entries_at}
use Rattle.grb_ewise.proofs.MatrixRows.{find-row, row-sorted}
use Rattle.grb_core.specs.Maps.{kronecker_of}
use Rattle.grb_core.proofs.Each.{holds}
use Rattle.grb_core.proofs.Products.{kronecker_inside, kronecker_outside, kronecker_sorted}
use Rattle.grb_core.proofs.Pulls.{IsAmong, find-outside}
use Rattle.grb_kronecker.specs.Crossing.{crossed}
use Rattle.grb_kronecker.specs.Rows.{AreIn}
use Rattle.grb_kronecker.proofs.Found.{find-crossed}
use Rattle.grb_kronecker.proofs.Ordered.{sorted-crossed}

-- the columns of a row are within those of the matrix
pub row-within : (i nrows ncols : ℕ) (a : MatrixEntries) → AllByRecursion (λ e. (e.0.0 < nrows) × (e.0.1 < ncols)) a → AllByRecursion (λ e. e.0 < ncols) (row_of i a)
row-within i nrows ncols [] w = tt
row-within i nrows ncols (e ∷ a) w =
    let rest = row-within i nrows ncols a w.1 in
    elim (nat_eq e.0.0 i) as (λ b. AllByRecursion (λ (d : ℕ × Value). d.0 < ncols) (map (λ (d : Cell × Value). (d.0.1, d.1)) (cond b (e ∷ filter (λ (d : Cell × Value). nat_eq d.0.0 i) a) (filter (λ (d : Cell × Value). nat_eq d.0.0 i) a)))) [
      | true ↦ (w.0.1, rest)
      | false ↦ rest
    ]

-- row x of a product is made of row x / r of the first and row x % r of the second
pub rows_are_crossed : (op : BinaryOp) (m n r c x : ℕ) (a b : MatrixEntries) → 0 < r → 0 < c → AreIn m n a → AreIn r c b → x < m * r
    → row_of x (kronecker_of op r c (m * r) (n * c) a b) ≡ crossed (value_of_op op) c (row_of (x / r) a) (row_of (x % r) b)
rows_are_crossed op m n r c x a b r_some c_some h k l =
    let f = value_of_op op in
    let product = kronecker_of op r c (m * r) (n * c) a b in
    let i = x / r in
    let p = x % r in
    let within_a = recursion_from_All (λ (e : Cell × Value). IsAmong m n e.0) a h.within in
    let row_b = row-within p r c b (recursion_from_All (λ (e : Cell × Value). IsAmong r c e.0) b k.within) in
    same_entries_at nat_cmp nat_cmp_total nat_cmp-IsAntisymmetric (row_of x product) (crossed f c (row_of i a) (row_of p b))
    (row-sorted x product (kronecker_sorted op r c (m * r) (n * c) a b))
    (sorted-crossed f c (row_of i a) (row_of p b) (row-sorted i a (holds _ h.ordered)) (row-sorted p b (holds _ k.ordered)) row_b)
    (λ y. find-row (x, y) product ∙ at_cell within_a y
    ∙ sym (find-crossed f c y (row_of i a) (row_of p b) row_b
    ∙ ap (λ (v : Option Value). both_values f v (find nat_cmp (y % c) (row_of p b))) (find-row (i, y / c) a)
    ∙ ap (both_values f (find cell_cmp (i, y / c) a)) (find-row (p, y % c) b)))
  where
    out_of_range : AllByRecursion (λ e. IsAmong m n e.0) a → (y : ℕ) → n * c ≤ y
        → find cell_cmp (x, y) (kronecker_of op r c (m * r) (n * c) a b) ≡ both_values (value_of_op op) (find cell_cmp (x / r, y / c) a) (find cell_cmp (x % r, y % c) b)
    out_of_range w y u =
        let past : n ≤ y / c = le-div n y c c_some u in
        kronecker_outside op r c (m * r) (n * c) a b (x, y) (λ s. let t = s.1 in absurd (omega (arith, u, t)))
        ∙ sym (ap (λ (v : Option Value). both_values (value_of_op op) v (find cell_cmp (x % r, y % c) b))
        (find-outside (IsAmong m n) (x / r, y / c) a w (λ s. let t = s.1 in absurd (omega (arith, past, t)))))

    at_cell : AllByRecursion (λ e. IsAmong m n e.0) a → (y : ℕ)
        → find cell_cmp (x, y) (kronecker_of op r c (m * r) (n * c) a b) ≡ both_values (value_of_op op) (find cell_cmp (x / r, y / c) a) (find cell_cmp (x % r, y % c) b)
    at_cell w y = elim (cases_lt y (n * c)) [ inl u ↦ kronecker_inside op r c (m * r) (n * c) a b x y l u | inr u ↦ out_of_range w y u ]
