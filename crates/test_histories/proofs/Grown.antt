-- A list that grows by a call.
use Rattle.std.proofs.Common.{◌≡◌, List, [], ◌∷◌, ◌++◌, length, map, refl, sym, ap, ◌∙◌}

pub none_all : {X Y : Type 0} (xs : List X) (ys : List Y) → length xs ≡ 0 → ys ≡ [] → length xs ≡ length ys
none_all xs ys none empty = none ∙ sym (ap length empty)

pub map_push : {X Y : Type 0} (f : X → Y) (xs : List X) (x : X) → map f (xs ++ x ∷ []) ≡ map f xs ++ f x ∷ []
map_push f [] x = refl
map_push f (y ∷ xs) x = ap (λ zs. f y ∷ zs) (map_push f xs x)
