-- Lists of tuples that compare equal are the same.
use Rattle.std.proofs.Common.{◌≡◌, ℕ, Bool, true, false, ◌&&◌, nat_eq, List, [], ◌∷◌, refl, ap, arith}
use Rattle.std.specs.Cmp.Lexicographic.{pointwise}
use Rattle.std.proofs.lemmas.Bool.{and_parts}
use Rattle.grb_core.specs.declared.value.Value.{Value}
use Rattle.grb_core.specs.declared.value.Value.TheVariants as value
use Rattle.grb_core.specs.contracts.value.ValuePartialEq.TheImpl.{ghosts as value_ghosts}
use Rattle.grb_tuples.proofs.Stored.{eq_cell, eq_index}

pub number_same : (m n : ℕ) → nat_eq m n ≡ true → m ≡ n
number_same m n e = grind arith

truth_same : (b c : Bool) → value_ghosts.eq (value.Bool b) (value.Bool c) ≡ true → b ≡ c
truth_same true true e = refl
truth_same false false e = refl
truth_same true false e = cc
truth_same false true e = cc

pub value_same : (x y : Value) → value_ghosts.eq x y ≡ true → x ≡ y
value_same (value.Bool b) (value.Bool c) e = ap value.Bool (truth_same b c e)
value_same (value.Uint64 m) (value.Uint64 n) e = ap value.Uint64 (number_same m n e)
value_same (value.Bool b) (value.Uint64 n) e = cc
value_same (value.Uint64 m) (value.Bool c) e = cc

pub lists_same : {X : Type 0} (f : X → X → Bool) → ((x y : X) → f x y ≡ true → x ≡ y) → (xs ys : List X) → pointwise f xs ys ≡ true → xs ≡ ys
lists_same f same [] [] e = refl
lists_same f same [] (y ∷ ys) e = cc
lists_same f same (x ∷ xs) [] e = cc
lists_same f same (x ∷ xs) (y ∷ ys) e = let p = and_parts (f x y) (pointwise f xs ys) e in λ i. same x y p.0 i ∷ lists_same f same xs ys p.1 i

pub index_same : (x y : ℕ × Value) → eq_index x y ≡ true → x ≡ y
index_same x y e = let p = and_parts (nat_eq x.0 y.0) (value_ghosts.eq x.1 y.1) e in λ i. (number_same x.0 y.0 p.0 i, value_same x.1 y.1 p.1 i)

pub cell_same : (x y : ℕ × ℕ × Value) → eq_cell x y ≡ true → x ≡ y
cell_same x y e =
    let p = and_parts (nat_eq x.0 y.0 && nat_eq x.1 y.1) (value_ghosts.eq x.2 y.2) e in let q = and_parts (nat_eq x.0 y.0) (nat_eq x.1 y.1) p.0 in
    λ i. (number_same x.0 y.0 q.0 i, number_same x.1 y.1 q.1 i, value_same x.2 y.2 p.1 i)
