-- Beginnings of one list, and what is linked in it.
use Rattle.std.proofs.Common.{◌≡◌, ◌<◌, ◌≤◌, Bool, true, false, MatchBool, List, [], ◌∷◌, ◌++◌, length, refl, ap, arith}
use mathlib.Core.List.{IsPrefix}
use Rattle.grb_chronicle.specs.Linked.{AreLinked, AreLinkedFrom, IsLast, IsLonger, MayFollow}

-- of two beginnings of one list the shorter begins the longer
pub prefix_shorter : {A : Type 0} (xs ys zs : List A) → IsPrefix xs zs → IsPrefix ys zs → length xs ≤ length ys → IsPrefix xs ys
prefix_shorter [] ys zs p q le = (ys, refl)
prefix_shorter (x ∷ xs) [] zs p q le = absurd (omega arith)
prefix_shorter (x ∷ xs) (y ∷ ys) [] p q le = absurd (cc (p.1))
prefix_shorter (x ∷ xs) (y ∷ ys) (z ∷ zs) p q le =
    let heads : x ≡ y = cc (p.1, q.1) in
    let rest = prefix_shorter xs ys zs (p.0, cc (p.1)) (q.0, cc (q.1)) (omega arith) in
    (rest.0, cc (heads, rest.1))

-- a beginning as long as the whole is the whole
pub prefix_whole : {A : Type 0} (xs ys : List A) → IsPrefix xs ys → length ys ≤ length xs → xs ≡ ys
prefix_whole [] [] p le = refl
prefix_whole [] (y ∷ ys) p le = absurd (omega arith)
prefix_whole (x ∷ xs) [] p le = absurd (cc (p.1))
prefix_whole (x ∷ xs) (y ∷ ys) p le =
    let rest = prefix_whole xs ys (p.0, cc (p.1)) (omega arith) in cc (p.1, rest)

-- a list that ends with this one does so with one more before it
last_more : {A : Type 0} (x y : A) (xs : List A) → IsLast xs y → IsLast (x ∷ xs) y
last_more {A} x y xs last = (x ∷ last.0, ap (λ (ys : List A). x ∷ ys) last.1)

-- a generation that may follow stays linked
pub linked_from_push : {A : Type 0} (follows : A → A → Type 0) (x : A) (xs : List A) (next : A) → AreLinkedFrom follows x xs → MayFollow follows (x ∷ xs) next → AreLinkedFrom follows x (xs ++ next ∷ [])
linked_from_push follows x [] next linked may = (may x ([], refl), tt)
linked_from_push {A} follows x (y ∷ xs) next linked may = (linked.0, linked_from_push follows y xs next linked.1 (λ last is. may last (last_more x last (y ∷ xs) is)))

pub linked_push : {A : Type 0} (follows : A → A → Type 0) (xs : List A) (next : A) → AreLinked follows xs → MayFollow follows xs next → AreLinked follows (xs ++ next ∷ [])
linked_push follows [] next linked may = tt
linked_push follows (x ∷ xs) next linked may = linked_from_push follows x xs next linked may

-- of two beginnings of one list, by their lengths
pub either_begins : {A : Type 0} (xs ys zs : List A) (b : Bool) → (b ≡ true → length xs ≤ length ys) → (b ≡ false → length ys < length xs) → IsPrefix xs zs → IsPrefix ys zs
    → MatchBool b (IsPrefix xs ys) (IsLonger ys xs)
either_begins xs ys zs true le lt p q = prefix_shorter xs ys zs p q (le refl)
either_begins xs ys zs false le lt p q = (prefix_shorter ys xs zs q p (omega (arith, lt refl)), lt refl)
