-- Marks for a list of objects, from its end.
use Rattle.std.proofs.Common.{◌≡◌, ℕ, zero, suc, Bool, true, false, ◌||◌, nat_eq, if◌then◌else◌, List, [], ◌∷◌, length, drop, refl, sym, ap, subst, ◌∙◌, arith, Some}
use Rattle.grb_replay.proofs.Prelude.{slice_get, Object, is_same_object, is_among, HasPlace, HavePlaces, KeepsPlaces, Marks, is_wanted}
use Rattle.grb_call.specs.declared.ids.Object.TheVariants as object

pub drop_there : {X : Type 0} (xs : List X) (n : ℕ) (x : X) → slice_get xs n ≡ Some x → drop n xs ≡ x ∷ drop (suc n) xs
drop_there [] n x e = cc
drop_there (y ∷ xs) zero x e = cc
drop_there (y ∷ xs) (suc n) x e = drop_there xs n x e

pub drop_end : {X : Type 0} (xs : List X) (n : ℕ) → n ≡ length xs → drop n xs ≡ []
drop_end [] n e = ap (λ m. drop m []) e
drop_end (x ∷ xs) n e = ap (λ m. drop m (x ∷ xs)) e ∙ drop_end xs (length xs) refl

pub keeps_same : (m : Marks) → KeepsPlaces m m
keeps_same m = record { matrices = omega arith; vectors = omega arith }

pub keeps_further : (m n o : Marks) → KeepsPlaces m n → KeepsPlaces n o → KeepsPlaces m o
keeps_further m n o first next = record { matrices = omega (arith, first.matrices, next.matrices); vectors = omega (arith, first.vectors, next.vectors) }

pub has_place_still : (m n : Marks) → KeepsPlaces m n → (o : Object) → HasPlace m o → HasPlace n o
has_place_still m n keeps (object.Matrix a) has = omega (arith, has, keeps.matrices)
has_place_still m n keeps (object.Vector v) has = omega (arith, has, keeps.vectors)

pub have_places_still : (m n : Marks) → KeepsPlaces m n → (os : List Object) → HavePlaces m os → HavePlaces n os
have_places_still m n keeps [] have = tt
have_places_still m n keeps (o ∷ os) have = (has_place_still m n keeps o have.0, have_places_still m n keeps os have.1)

-- one more object from the end has a place
pub places_next : (m : Marks) (os : List Object) (n : ℕ) (o : Object) → slice_get os n ≡ Some o → HasPlace m o → HavePlaces m (drop (suc n) os) → HavePlaces m (drop n os)
places_next m os n o there has have = subst (λ (ps : List Object). HavePlaces m ps) (sym (drop_there os n o there)) (has, have)

same_turned : (m n : ℕ) → nat_eq m n ≡ nat_eq n m
same_turned m n = grind arith

same_object_turned : (o p : Object) → is_same_object o p ≡ is_same_object p o
same_object_turned (object.Matrix a) (object.Matrix b) = same_turned a.0 b.0
same_object_turned (object.Vector v) (object.Vector w) = same_turned v.0 w.0
same_object_turned (object.Matrix a) (object.Vector w) = refl
same_object_turned (object.Vector v) (object.Matrix b) = refl

marked_more : (b c d : Bool) → (if b then true else c || d) ≡ ((b || c) || d)
marked_more true c d = refl
marked_more false c d = refl

-- one more object from the end is marked
pub marks_next : (old now new : Marks) (os : List Object) (n : ℕ) (o : Object) → slice_get os n ≡ Some o →
    ((p : Object) → is_wanted now p ≡ (is_among (drop (suc n) os) p || is_wanted old p)) → ((p : Object) → is_wanted new p ≡ (if is_same_object o p then true else is_wanted now p)) →
    (p : Object) → is_wanted new p ≡ (is_among (drop n os) p || is_wanted old p)
marks_next old now new os n o there marked put p =
    put p ∙ (ap (λ b. if is_same_object o p then true else b) (marked p)
    ∙ (marked_more (is_same_object o p) (is_among (drop (suc n) os) p) (is_wanted old p)
    ∙ (ap (λ b. (b || is_among (drop (suc n) os) p) || is_wanted old p) (same_object_turned o p)
    ∙ ap (λ (ps : List Object). is_among ps p || is_wanted old p) (sym (drop_there os n o there)))))
