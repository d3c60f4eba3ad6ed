-- Parts of lists.
use Rattle.std.proofs.Common.{◌≡◌, ℕ, ◌+◌, ◌<◌, ◌≤◌, List, ◌++◌, length, get_or, take, drop, sym, ap, subst, ◌∙◌, arith}
use Rattle.std.proofs.lemmas.List.{length-drop, get_or-drop, take-append-drop, take-append-le, take_all}

-- a list that begins as another one is that one and the rest
pub parted : {A : Type 0} (xs ys : List A) (k : ℕ) → take k ys ≡ xs → ys ≡ xs ++ drop k ys
parted {A} xs ys k e = sym (take-append-drop k ys) ∙ ap (λ (s : List A). s ++ drop k ys) e

pub fit-dropped : (ys : List ℕ) (k : ℕ) → k ≤ length ys → ((n : ℕ) → n < length ys → get_or ys n 0 < 4294967296) → (n : ℕ) → n < length (drop k ys) → get_or (drop k ys) n 0 < 4294967296
fit-dropped ys k h fit n l =
    let rest = length-drop k ys in
    subst (λ v. v < 4294967296) (sym (get_or-drop k ys n 0)) (fit (k + n) (omega (arith, h, l, rest)))

-- of a list that was lent as a slice, the first n are those of the slice
pub of_lent : {A : Type 0} (n l : ℕ) (xs ys : List A) → length xs ≡ l → take n (take l (xs ++ ys)) ≡ take n xs
of_lent n l xs ys e = ap (take n) (take-append-le l xs ys (omega (arith, e)) ∙ take_all l xs (omega (arith, e)))
