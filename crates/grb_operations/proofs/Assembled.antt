-- The objects of a list, assembled from its end.
use Rattle.std.proofs.Common.{◌≡◌, ℕ, zero, suc, List, [], ◌∷◌, length, drop, refl, sym, subst, Some}
use Rattle.std.specs.Prelude.{slice_get}
use Rattle.std.specs.List.{AllByRecursion}

module _ {X : Type 0} where
  drop_there : (xs : List X) (n : ℕ) (x : X) → slice_get xs n ≡ Some x → drop n xs ≡ x ∷ drop (suc n) xs
  drop_there [] n x e = cc
  drop_there (y ∷ xs) zero x e = cc
  drop_there (y ∷ xs) (suc n) x e = drop_there xs n x e

  drop_end : (xs : List X) → drop (length xs) xs ≡ []
  drop_end [] = refl
  drop_end (x ∷ xs) = drop_end xs

  pub none_yet : (P : X → Type 0) (xs : List X) → AllByRecursion P (drop (length xs) xs)
  none_yet P xs = subst (λ (ys : List X). AllByRecursion P ys) (sym (drop_end xs)) tt

  still : (P Q : X → Type 0) → ((x : X) → P x → Q x) → (xs : List X) → AllByRecursion P xs → AllByRecursion Q xs
  still P Q f [] all = tt
  still P Q f (x ∷ xs) all = (f x all.0, still P Q f xs all.1)

  -- one more from the end
  pub one_further : (P Q : X → Type 0) → ((x : X) → P x → Q x) → (xs : List X) (n : ℕ) (x : X) → slice_get xs n ≡ Some x → Q x → AllByRecursion P (drop (suc n) xs) → AllByRecursion Q (drop n xs)
  one_further P Q f xs n x there holds all = subst (λ (ys : List X). AllByRecursion Q ys) (sym (drop_there xs n x there)) (holds, still P Q f (drop (suc n) xs) all)
