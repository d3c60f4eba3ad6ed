-- All rows of a Kronecker product that store something are product rows.
use Rattle.std.proofs.Common.{◌≡◌, ℕ, ◌+◌, ◌*◌, ◌/◌, ◌%◌, ◌<◌, ◌≤◌, List, [], ◌∷◌, length, get_or, refl, ap, ◌∙◌, arith, inl, inr, mul_comm}
use Rattle.std.specs.Prelude.{◌⊎◌}
use Rattle.std.specs.Ordering.{nat_cmp}
use Rattle.std.specs.Cmp.{nat_cmp_total}
use Rattle.std.specs.FinMap.{nat_cmp-IsAntisymmetric}
use Rattle.std.proofs.lemmas.Bool.{cases_lt}
use Rattle.std.proofs.lemmas.Nat.{div-add-mod', mul-add-lt}
use Rattle.grb_core.specs.declared.value.Value.{Value}
use Rattle.grb_core.specs.declared.operator.BinaryOp.{BinaryOp}
use Rattle.grb_core.specs.Operator.{value_of_op}
use Rattle.grb_core.specs.Entries.{MatrixEntries, VectorEntries}
use Rattle.grb_core.specs.Results.{row_of}
use Rattle.grb_core.proofs.Maps.{same_entries_at}
use Rattle.grb_ewise.proofs.MatrixRows.{find-row, row-sorted}
use Rattle.grb_core.specs.Maps.{kronecker_of}
use Rattle.grb_kronecker.specs.Crossing.{crossed}
use Rattle.grb_kronecker.specs.Rows.{AreIn, product_rows}
use Rattle.grb_core.proofs.Products.{kronecker_outside, kronecker_sorted}
use Rattle.grb_kronecker.proofs.Products.{rows_are_crossed}
use Rattle.grb_kronecker.proofs.ProductRows.{length-product, get_or-product, find_place}

crossed-nothing : (f : Value → Value → Value) (c : ℕ) (x : VectorEntries) → crossed f c x [] ≡ []
crossed-nothing f c [] = refl
crossed-nothing f c (e ∷ x) = crossed-nothing f c x

row-past : (op : BinaryOp) (m n r c x : ℕ) (a b : MatrixEntries) → m * r ≤ x → row_of x (kronecker_of op r c (m * r) (n * c) a b) ≡ []
row-past op m n r c x a b h =
    let product = kronecker_of op r c (m * r) (n * c) a b in
    same_entries_at nat_cmp nat_cmp_total nat_cmp-IsAntisymmetric (row_of x product) [] (row-sorted x product (kronecker_sorted op r c (m * r) (n * c) a b)) tt
    (λ y. find-row (x, y) product ∙ kronecker_outside op r c (m * r) (n * c) a b (x, y) (λ s. let t = s.0 in absurd (omega (arith, h, t))))

pub product-all : (op : BinaryOp) (m n r c : ℕ) (a b : MatrixEntries) (is ps : List ℕ) → 0 < r → 0 < c → AreIn m n a → AreIn r c b
    → ((i : ℕ) → ((k : ℕ) → k < length is → get_or is k 0 ≡ i → ⊥) → row_of i a ≡ []) → ((i : ℕ) → ((k : ℕ) → k < length ps → get_or ps k 0 ≡ i → ⊥) → row_of i b ≡ [])
    → (x : ℕ) → ((t : ℕ) → t < length (product_rows r is ps) → get_or (product_rows r is ps) t 0 ≡ x → ⊥) → row_of x (kronecker_of op r c (m * r) (n * c) a b) ≡ []
product-all op m n r c a b is ps r_some c_some in_a in_b all_a all_b x never =
    elim (cases_lt x (m * r)) [
      | inl l ↦ rows_are_crossed op m n r c x a b r_some c_some in_a in_b l ∙ nothing (find_place is (x / r)) (find_place ps (x % r))
      | inr l ↦ row-past op m n r c x a b l
    ]
  where
    nothing : ((k : ℕ) × (k < length is) × (get_or is k 0 ≡ x / r)) ⊎ ((k : ℕ) → k < length is → get_or is k 0 ≡ x / r → ⊥)
        → ((k : ℕ) × (k < length ps) × (get_or ps k 0 ≡ x % r)) ⊎ ((k : ℕ) → k < length ps → get_or ps k 0 ≡ x % r → ⊥)
        → crossed (value_of_op op) c (row_of (x / r) a) (row_of (x % r) b) ≡ []
    nothing (inr h) second = ap (λ (m : VectorEntries). crossed (value_of_op op) c m (row_of (x % r) b)) (all_a (x / r) h)
    nothing (inl h) (inr k) = ap (crossed (value_of_op op) c (row_of (x / r) a)) (all_b (x % r) k) ∙ crossed-nothing (value_of_op op) c (row_of (x / r) a)
    nothing (inl h) (inl k) =
        let t = h.0 * length ps + k.0 in
        let within : t < length ps * length is = mul-add-lt h.0 (length ps) k.0 (length is) h.1 k.1 in
        let long = length-product r is ps in
        let turned = mul_comm (length is) (length ps) in
        absurd (never t (omega (arith, within, long, turned))
        (get_or-product r is ps h.0 k.0 h.1 k.1 ∙ ap (λ n. n * r + get_or ps k.0 0) h.2 ∙ ap (λ n. x / r * r + n) k.2 ∙ div-add-mod' x r))
