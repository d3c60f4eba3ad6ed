-- Which numbers the objects have that are there.
use Rattle.std.proofs.Common.{◌≡◌, ℕ, zero, suc, ◌+◌, Bool, true, false, cond, List, [], ◌∷◌, ◌++◌, length, map, refl, sym, ap, ◌∙◌, add-one, Option, Some, None, option_map}
use Rattle.std.specs.Prelude.{filter, is_some}
use Rattle.std.proofs.lemmas.List.{append-nil, length-map}
use Rattle.std.proofs.lemmas.List.Elements.{filter-append, filter_agree}
use Rattle.grb_call.specs.Shapes.{object_at}
use Rattle.grb_reader.specs.LiveNumbers.{numbers_below, live_numbers}

-- those below a number at which something stands
abbrev pub live_to : {X : Type 0} → List (Option X) → ℕ → List ℕ
live_to xs n = filter (λ k. is_some (object_at xs k)) (numbers_below n)

-- and at one number more
pub live_to-some : {X : Type 0} (xs : List (Option X)) (n : ℕ) → is_some (object_at xs n) ≡ true → live_to xs (n + 1) ≡ live_to xs n ++ n ∷ []
live_to-some xs n there =
    ap (live_to xs) (add-one n) ∙ filter-append (λ k. is_some (object_at xs k)) (numbers_below n) (n ∷ []) ∙ ap (λ (b : Bool). live_to xs n ++ cond b (n ∷ []) []) there

pub live_to-none : {X : Type 0} (xs : List (Option X)) (n : ℕ) → is_some (object_at xs n) ≡ false → live_to xs (n + 1) ≡ live_to xs n
live_to-none xs n there =
    ap (live_to xs) (add-one n) ∙ filter-append (λ k. is_some (object_at xs k)) (numbers_below n) (n ∷ []) ∙ ap (λ (b : Bool). live_to xs n ++ cond b (n ∷ []) []) there
    ∙ append-nil (live_to xs n)

some_same : {X Y : Type 0} (f : X → Y) (xs : List (Option X)) (n : ℕ) → is_some (object_at (map (option_map f) xs) n) ≡ is_some (object_at xs n)
some_same f [] n = refl
some_same f (None ∷ xs) zero = refl
some_same f (Some x ∷ xs) zero = refl
some_same f (x ∷ xs) (suc n) = some_same f xs n

-- where the shapes are, the objects are
pub live_numbers-map : {X Y : Type 0} (f : X → Y) (xs : List (Option X)) → live_numbers (map (option_map f) xs) ≡ live_numbers xs
live_numbers-map f xs =
    ap (live_to (map (option_map f) xs)) (length-map xs (option_map f))
    ∙ filter_agree (λ k. is_some (object_at (map (option_map f) xs) k)) (λ k. is_some (object_at xs k)) (some_same f xs) (numbers_below (length xs))
