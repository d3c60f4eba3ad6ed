-- The later rows of a block of rows.
use Rattle.std.proofs.Common.{◌≡◌, ◌≤◌, ℕ, Bool, true, false, cond, [], ◌∷◌, refl, ap, ◌∙◌, arith}
use Rattle.std.specs.Prelude.{◌&&◌, filter}
use Rattle.std.proofs.lemmas.Bool.Decides.{nat_tests}
use Rattle.grb_core.specs.declared.value.Value.{Value}
use Rattle.grb_core.specs.Entries.{Cell, MatrixEntries}
use Rattle.grb_mxm.specs.Rows.{is_between, rows_between}

-- entries that pass one test and then another
passed_twice : (p q r : Cell × Value → Bool) → ((x : Cell × Value) → (q x && p x) ≡ r x) → (xs : MatrixEntries) → filter p (filter q xs) ≡ filter r xs
passed_twice p q r same [] = refl
passed_twice p q r same (x ∷ xs) =
    let kept : MatrixEntries = filter q xs in
    let rest = passed_twice p q r same xs in
    elim (q x) as (λ b. (b && p x) ≡ r x → filter p (cond b (x ∷ kept) kept) ≡ cond (r x) (x ∷ filter r xs) (filter r xs)) [
      | true ↦ λ h. ap (λ b. cond b (x ∷ filter p kept) (filter p kept)) h ∙ ap (λ (ys : MatrixEntries). cond (r x) (x ∷ ys) ys) rest
      | false ↦ λ h. rest ∙ ap (λ b. cond b (x ∷ filter r xs) (filter r xs)) h
    ] (same x)

within_both : (f g u i : ℕ) → f ≤ g → (is_between f u i && is_between g u i) ≡ is_between g u i
within_both f g u i le = grind (arith, nat_tests)

pub later_rows : (f g u : ℕ) (m : MatrixEntries) → f ≤ g → rows_between g u (rows_between f u m) ≡ rows_between g u m
later_rows f g u m le =
    passed_twice (λ (x : Cell × Value). is_between g u x.0.0) (λ (x : Cell × Value). is_between f u x.0.0) (λ (x : Cell × Value). is_between g u x.0.0) (λ x. within_both f g u x.0.0 le) m
