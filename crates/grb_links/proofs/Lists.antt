-- Lists: what stands at a place of one that grew, or of its front.
use Rattle.std.proofs.Common.{◌≡◌, ℕ, zero, suc, ◌<◌, List, [], ◌∷◌, ◌++◌, length, take, refl, sym, ap, Option, Some, arith}
use Rattle.std.specs.Prelude.{slice_get}

module _ {X : Type 0} where
  pub some_same : (x y : X) → ◌≡◌ {A = Option X} (Some x) (Some y) → x ≡ y
  some_same x y e = cc

  pub take_suc : (xs : List X) (k : ℕ) (x : X) → slice_get xs k ≡ Some x → take (suc k) xs ≡ take k xs ++ x ∷ []
  take_suc [] k x e = cc
  take_suc (y ∷ xs) zero x e = ap (λ (z : X). z ∷ []) (some_same y x e)
  take_suc (y ∷ xs) (suc k) x e = ap (λ (zs : List X). y ∷ zs) (take_suc xs k x e)

  -- it is one of those before, or the last
  pub data AtPush (xs : List X) (y : X) (k : ℕ) (x : X) : Type 0 where
    Before : slice_get xs k ≡ Some x → AtPush xs y k x
    Last : k ≡ length xs → x ≡ y → AtPush xs y k x

  pub pushed_at : (xs : List X) (y : X) (k : ℕ) (x : X) → slice_get (xs ++ y ∷ []) k ≡ Some x → AtPush xs y k x
  pushed_at [] y zero x e = Last refl (sym (some_same y x e))
  pushed_at [] y (suc k) x e = cc
  pushed_at (z ∷ xs) y zero x e = Before e
  pushed_at (z ∷ xs) y (suc k) x e = further (pushed_at xs y k x e)
    where
      further : AtPush xs y k x → AtPush (z ∷ xs) y (suc k) x
      further (Before f) = Before f
      further (Last n f) = Last (ap suc n) f

  pub within_of : (xs : List X) (k : ℕ) (x : X) → slice_get xs k ≡ Some x → k < length xs
  within_of [] k x e = cc
  within_of (y ∷ xs) zero x e = omega arith
  within_of (y ∷ xs) (suc k) x e = let rest : k < length xs = within_of xs k x e in omega (arith, rest)

  pub get_take : (xs : List X) (k : ℕ) → slice_get (take (suc k) xs) k ≡ slice_get xs k
  get_take [] k = refl
  get_take (x ∷ xs) zero = refl
  get_take (x ∷ xs) (suc k) = get_take xs k

  pub end_none : (xs : List X) → xs ++ [] ≡ xs
  end_none [] = refl
  end_none (x ∷ xs) = ap (λ (ys : List X). x ∷ ys) (end_none xs)
