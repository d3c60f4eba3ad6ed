-- Sums by the entries of a row, one after another.
use Rattle.std.proofs.Common.{◌≡◌, ℕ, cond, ◌∷◌, refl, sym, ap, ◌∙◌}
use Rattle.std.specs.Prelude.{Option, Some, None}
use Rattle.std.specs.declared.cmp.Ordering.{Ordering}
use Rattle.std.specs.declared.cmp.Ordering.TheVariants.{Less, Equal, Greater}
use Rattle.std.specs.Ordering.{nat_cmp, is_eq}
use Rattle.std.specs.Cmp.{nat_cmp_total, nat_cmp_is}
use Rattle.std.specs.FinMap.{find, nat_cmp-IsAntisymmetric}
use Rattle.std.specs.FinMap.Entries.{below_all}
use lib.Dec.{T}
use Rattle.grb_core.specs.declared.value.Value.{Value}
use Rattle.grb_core.specs.Entries.{VectorEntries}
use Rattle.grb_core.specs.Written.{either_value, both_values}
use Rattle.grb_core.proofs.Maps.{find-tied_below}

pub apart : (j k : ℕ) → j ≡ k → (r : Ordering) → nat_cmp j k ≡ r → (r ≡ Equal → ⊥) → ⊥
apart j k q r t n = n (sym t ∙ sym (nat_cmp_is j k Equal q))

either_twice : (f : Value → Value → Value) (o : Option Value) (v : Value) → either_value f (either_value f o (Some v)) None ≡ either_value f o (Some v)
either_twice f None v = refl
either_twice f (Some x) v = refl

-- the sum at one place, an entry further on
pub allowed_step : (add mul : Value → Value → Value) (p q : ℕ) (xv y : Value) (rest : VectorEntries) (o o2 total : Option Value)
    → (p ≡ q → o2 ≡ either_value add o (Some (mul xv y))) → ((p ≡ q → ⊥) → o2 ≡ o) → T (below_all nat_cmp q rest)
    → either_value add o (both_values mul (Some xv) (find nat_cmp p ((q, y) ∷ rest))) ≡ total
    → either_value add o2 (both_values mul (Some xv) (find nat_cmp p rest)) ≡ total
allowed_step add mul p q xv y rest o o2 total here other below was =
    elim (nat_cmp p q) as (λ r. nat_cmp p q ≡ r → either_value add o (both_values mul (Some xv) (cond (is_eq r) (Some y) (find nat_cmp p rest))) ≡ total
    → either_value add o2 (both_values mul (Some xv) (find nat_cmp p rest)) ≡ total) [
      | Less ↦ λ t w. ap (λ v. either_value add v (both_values mul (Some xv) (find nat_cmp p rest))) (other (λ e. apart p q e Less t (λ (n : Less ≡ Equal). cc))) ∙ w
      | Equal ↦ λ t w.
          ap (λ v. either_value add o2 (both_values mul (Some xv) v)) (find-tied_below nat_cmp nat_cmp_total q p rest below t)
          ∙ ap (λ v. either_value add v None) (here (nat_cmp-IsAntisymmetric p q t))
          ∙ either_twice add o (mul xv y)
          ∙ w
      | Greater ↦ λ t w. ap (λ v. either_value add v (both_values mul (Some xv) (find nat_cmp p rest))) (other (λ e. apart p q e Greater t (λ (n : Greater ≡ Equal). cc))) ∙ w
    ] refl was
