-- One more entry of a row of a Kronecker product.
use Rattle.std.proofs.Common.{◌≡◌, ℕ, ◌+◌, ◌*◌, [], ◌∷◌, ◌++◌, sym, ap, ◌∙◌, append_assoc}
use Rattle.grb_core.specs.declared.value.Value.{Value}
use Rattle.grb_core.specs.Entries.{VectorEntries}
use Rattle.grb_kronecker.specs.Crossing.{crossed, shifted}

-- what is made of the next entry stands after what was made before
pub shifted_on : (f : Value → Value → Value) (base : ℕ) (v : Value) (out out' : VectorEntries) (j column : ℕ) (x made : Value) (rest m : VectorEntries)
    → rest ≡ (j, x) ∷ m → column ≡ base + j → made ≡ f v x → out' ≡ out ++ (column, made) ∷ [] → out' ++ shifted f base v m ≡ out ++ shifted f base v rest
shifted_on f base v out out' j column x made rest m r c is e =
    ap (λ o. o ++ shifted f base v m) (e ∙ ap (λ (k : ℕ). out ++ (k, made) ∷ []) c ∙ ap (λ (w : Value). out ++ (base + j, w) ∷ []) is)
    ∙ append_assoc out ((base + j, f v x) ∷ []) (shifted f base v m)
    ∙ ap (λ (t : VectorEntries). out ++ t) (sym (ap (shifted f base v) r))

-- and what is made of the next entry of the first row
pub crossed_on : (f : Value → Value → Value) (c : ℕ) (y out out' : VectorEntries) (j : ℕ) (x : Value) (rest m : VectorEntries)
    → rest ≡ (j, x) ∷ m → out' ≡ out ++ shifted f (j * c) x y → out' ++ crossed f c m y ≡ out ++ crossed f c rest y
crossed_on f c y out out' j x rest m r e =
    ap (λ o. o ++ crossed f c m y) e ∙ append_assoc out (shifted f (j * c) x y) (crossed f c m y)
    ∙ ap (λ (t : VectorEntries). out ++ t) (sym (ap (λ (s : VectorEntries). crossed f c s y) r))
