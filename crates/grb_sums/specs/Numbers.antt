-- inside: no public contract names it. The numbers below another are names of places that rise: what a law of `Columns` asks.
use Rattle.std.proofs.Common.{◌≡◌, ℕ, zero, suc, ◌+◌, ◌<◌, length, refl, ap, arith}
use Rattle.std.specs.Prelude.{slice_index}
use Rattle.grb_ewise.specs.Ranks.{Rise}
use Rattle.grb_sums.specs.ColumnSums.{numbers_from, numbers_below}

numbers_from-length : (j n : ℕ) → length (numbers_from j n) ≡ n
numbers_from-length j zero = refl
numbers_from-length j (suc n) = ap suc (numbers_from-length (suc j) n)

numbers_from-at : (j n p : ℕ) → p < n → slice_index (numbers_from j n) p ≡ j + p
numbers_from-at j zero p h = absurd (omega arith)
numbers_from-at j (suc n) zero h = omega arith
numbers_from-at j (suc n) (suc p) h =
    let rest : slice_index (numbers_from (suc j) n) p ≡ suc j + p = numbers_from-at (suc j) n p (omega arith) in
    omega (arith, rest)

pub numbers_below-length : (n : ℕ) → length (numbers_below n) ≡ n
numbers_below-length n = numbers_from-length 0 n

pub numbers_below-at : (n p : ℕ) → p < n → slice_index (numbers_below n) p ≡ p
numbers_below-at n p h = let at = numbers_from-at 0 n p h in omega (arith, at)

pub numbers_below-rise : (n : ℕ) → Rise (numbers_below n)
numbers_below-rise n i j l h =
    let long = numbers_below-length n in
    let a = numbers_below-at n i (omega (arith, l, h, long)) in
    let b = numbers_below-at n j (omega (arith, h, long)) in
    omega (arith, a, b, l)
