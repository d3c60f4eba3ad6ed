-- What stands where on the pages of one chronicle.
use Rattle.std.proofs.Common.{◌≡◌, ◌≤◌, ℕ, zero, suc, List, [], ◌∷◌, ◌++◌, length, Some, refl, ap, arith}
use Rattle.std.specs.Prelude.{slice_get}
use mathlib.Core.List.{IsPrefix}
use Rattle.grb_chronicle.specs.Linked.{IsLast}

-- what stands on a page stands on each longer one
pub prefix_at : {A : Type 0} (xs ys : List A) (k : ℕ) (x : A) → IsPrefix xs ys → slice_get xs k ≡ Some x → slice_get ys k ≡ Some x
prefix_at [] ys k x p e = absurd (cc e)
prefix_at (y ∷ xs) [] k x p e = absurd (cc (p.1))
prefix_at (y ∷ xs) (z ∷ ys) zero x p e = cc (p.1, e)
prefix_at (y ∷ xs) (z ∷ ys) (suc k) x p e = prefix_at xs ys k x (p.0, cc (p.1)) e

-- a page is no longer than one that it begins
pub prefix_length : {A : Type 0} (xs ys : List A) → IsPrefix xs ys → length xs ≤ length ys
prefix_length [] ys p = omega arith
prefix_length (x ∷ xs) [] p = absurd (cc (p.1))
prefix_length (x ∷ xs) (y ∷ ys) p = let rest = prefix_length xs ys (p.0, cc (p.1)) in omega (arith, rest)

pub prefix_self : {A : Type 0} (xs : List A) → IsPrefix xs xs
prefix_self [] = ([], refl)
prefix_self (x ∷ xs) = let rest = prefix_self xs in (rest.0, ap (λ ys. x ∷ ys) rest.1)

pub prefix_push : {A : Type 0} (xs : List A) (x : A) → IsPrefix xs (xs ++ x ∷ [])
prefix_push xs x = (x ∷ [], refl)

pub at_push : {A : Type 0} (xs : List A) (x : A) → slice_get (xs ++ x ∷ []) (length xs) ≡ Some x
at_push [] x = refl
at_push (y ∷ xs) x = at_push xs x

pub last_push : {A : Type 0} (xs : List A) (x : A) → IsLast (xs ++ x ∷ []) x
last_push xs x = (xs, refl)

-- one generation is the last
pub last_one : {A : Type 0} (xs : List A) (x y : A) → IsLast xs x → IsLast xs y → x ≡ y
last_one [] x y ([], e) q = absurd (cc e)
last_one [] x y (z ∷ zs, e) q = absurd (cc e)
last_one (a ∷ []) x y ([], e) ([], f) = cc (e, f)
last_one (a ∷ []) x y ([], e) (z ∷ [], f) = absurd (cc f)
last_one (a ∷ []) x y ([], e) (z ∷ w ∷ zs, f) = absurd (cc f)
last_one (a ∷ []) x y (z ∷ [], e) q = absurd (cc e)
last_one (a ∷ []) x y (z ∷ w ∷ zs, e) q = absurd (cc e)
last_one (a ∷ b ∷ xs) x y ([], e) q = absurd (cc e)
last_one (a ∷ b ∷ xs) x y (z ∷ zs, e) ([], f) = absurd (cc f)
last_one (a ∷ b ∷ xs) x y (z ∷ zs, e) (w ∷ ws, f) = last_one (b ∷ xs) x y (zs, cc e) (ws, cc f)
