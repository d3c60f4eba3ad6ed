-- Lists of calls, whole and lent.
use Rattle.std.proofs.Common.{◌≡◌, ℕ, zero, suc, List, [], ◌∷◌, refl, sym, ap, ◌∙◌, length, map, take, get_or}
use Rattle.grb_replay.proofs.Prelude.{Call}

pub take_all : {X : Type 0} (xs : List X) (n : ℕ) → n ≡ length xs → take n xs ≡ xs
take_all [] n e = ap (λ m. take m []) e
take_all (x ∷ xs) n e = ap (λ m. take m (x ∷ xs)) e ∙ ap (λ ys. x ∷ ys) (take_all xs (length xs) refl)

get_or-map : {X Y : Type 0} (f : X → Y) (xs : List X) (k : ℕ) (d : X) → get_or (map f xs) k (f d) ≡ f (get_or xs k d)
get_or-map f [] k d = refl
get_or-map f (x ∷ xs) zero d = refl
get_or-map f (x ∷ xs) (suc k) d = get_or-map f xs k d

-- a call that is lent
pub lent_call : {X : Type 0} (f : X → Call) (xs : List X) (k : ℕ) (d : X) → d ≡ get_or xs k d → get_or (map f xs) k (f d) ≡ f d
lent_call f xs k d e = get_or-map f xs k d ∙ ap f (sym e)
