-- A row as a part of the lists of a matrix.
use Rattle.std.proofs.Common.{◌≡◌, ℕ, zero, suc, ◌+◌, ◌-◌, ◌%◌, ◌≤◌, List, [], ◌∷◌, take, drop, refl, sym, ap, ◌∙◌, arith}
use Rattle.std.specs.Prelude.{map}
use Rattle.std.proofs.lemmas.List.{take-map, drop-take}
use Rattle.grb_core.specs.declared.value.Value.{Value}
use Rattle.grb_core.specs.Entries.{Cell, VectorEntries, values_of}
use Rattle.grb_kernels.specs.Typed.{entries_of}
use Rattle.grb_lists.specs.Cells.{decoded, in_row}
use Rattle.grb_ewise.proofs.Lent.{lent}

drop_map : {A B : Type 0} (f : A → B) (n : ℕ) (xs : List A) → drop n (map f xs) ≡ map f (drop n xs)
drop_map f zero xs = refl
drop_map f (suc n) [] = refl
drop_map f (suc n) (x ∷ xs) = drop_map f n xs

columns_of-decoded : (m : VectorEntries) → map (λ (e : Cell × Value). e.0.1) (decoded m) ≡ map (λ (e : ℕ × Value). e.0 % 4294967296) m
columns_of-decoded [] = refl
columns_of-decoded (e ∷ m) = ap (λ (s : List ℕ). (e.0 % 4294967296) ∷ s) (columns_of-decoded m)

keys_of-row : (m : VectorEntries) → map (λ (e : ℕ × Value). e.0) (in_row m) ≡ map (λ (e : ℕ × Value). e.0 % 4294967296) m
keys_of-row [] = refl
keys_of-row (e ∷ m) = ap (λ (s : List ℕ). (e.0 % 4294967296) ∷ s) (keys_of-row m)

values_of-row : (m : VectorEntries) → values_of (in_row m) ≡ map (λ (e : ℕ × Value). e.1) m
values_of-row [] = refl
values_of-row (e ∷ m) = ap (λ (s : List Value). e.1 ∷ s) (values_of-row m)

part_of : {A : Type 0} (s e : ℕ) (xs : List A) → s ≤ e → drop s (take e xs) ≡ take (e - s) (drop s xs)
part_of s e xs h = let up : e ≡ s + (e - s) = omega (arith, h) in ap (λ n. drop s (take n xs)) up ∙ drop-take s (e - s) xs

pub between : {V : Type 0} (value : V → Value) (s e : ℕ) (cs ks : List ℕ) (vs ws : List V) (m : VectorEntries) → s ≤ e
    → cs ≡ map (λ (d : Cell × Value). d.0.1) (decoded m) → map value vs ≡ values_of m → ks ≡ take (e - s) (drop s cs) → ws ≡ take (e - s) (drop s vs)
    → entries_of value ks ws ≡ in_row (drop s (take e m))
between {V} value s e cs ks vs ws m h c v k w =
    let col : ℕ × Value → ℕ = λ d. d.0 % 4294967296 in
    let val : ℕ × Value → Value = λ d. d.1 in
    let part = part_of s e m h in
    lent value ks ws (in_row (drop s (take e m)))
    (k ∙ ap (λ (x : List ℕ). take (e - s) (drop s x)) (c ∙ columns_of-decoded m) ∙ ap (take (e - s)) (drop_map col s m) ∙ take-map col (e - s) (drop s m)
    ∙ ap (map col) (sym part) ∙ sym (keys_of-row (drop s (take e m))))
    (ap (map value) w ∙ sym (take-map value (e - s) (drop s vs)) ∙ ap (take (e - s)) (sym (drop_map value s vs) ∙ ap (drop s) v) ∙ ap (take (e - s)) (drop_map val s m) ∙ take-map val (e - s) (drop s m)
    ∙ ap (map val) (sym part) ∙ sym (values_of-row (drop s (take e m))))
