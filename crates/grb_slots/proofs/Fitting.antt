-- The values of a row fit its slots: one after another, or each fits every slot.
use Rattle.std.proofs.Common.{ℕ, zero, suc, List, [], ◌∷◌, ◌++◌, length, refl, subst, ap, unwrap_or}
use Rattle.std.specs.Prelude.{All, Option}
use Rattle.std.proofs.lemmas.Option.{get_or_from_slice_get, none-some, slice_get_within}
use Rattle.grb_slots.specs.Row.{AllFit}

module _ {X : Type 0} where
  pub none_fit : (fits : ℕ → X → Type 0) → AllFit fits []
  none_fit fits k x e = absurd (none-some x e)

  -- one more, at the next index
  pub more_fit : (fits : ℕ → X → Type 0) (xs : List X) (y : X) → AllFit fits xs → fits (length xs) y → AllFit fits (xs ++ y ∷ [])
  more_fit fits [] y ok one zero x e = subst (fits 0) (ap (λ (o : Option X). unwrap_or o y) e) one
  more_fit fits [] y ok one (suc k) x e = absurd (none-some x e)
  more_fit fits (x ∷ xs) y ok one zero z e = ok 0 z e
  more_fit fits (x ∷ xs) y ok one (suc k) z e = more_fit (λ (n : ℕ). fits (suc n)) xs y (λ n w q. ok (suc n) w q) one k z e

  -- the first fits, and so do those after it, each one index further
  pub first_fits : (fits : ℕ → X → Type 0) (x : X) (xs : List X) → AllFit fits (x ∷ xs) → fits 0 x × AllFit (λ (k : ℕ). fits (suc k)) xs
  first_fits fits x xs ok = (ok 0 x refl, (λ k y e. ok (suc k) y e))

  pub all_fit : (fits : X → Type 0) (xs : List X) → All fits xs → AllFit (λ _. fits) xs
  all_fit fits xs ok k x e = subst fits (get_or_from_slice_get xs k x x e) (ok k x (slice_get_within xs k x e))
