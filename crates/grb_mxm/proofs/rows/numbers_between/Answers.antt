use Rattle.std.proofs.Common.{◌≡◌, ◌<◌, ◌≤◌, ◌+◌, ◌-◌, ℕ, List, length, get_or, take, drop, sym, ap, subst, ◌∙◌, arith}
use Rattle.grb_ewise.specs.Ranks.{Rise}
use Rattle.grb_mxm.proofs.Joining.{part_long, part_at}
use Rattle.grb_mxm.proofs.rows.numbers_between.Goals as goal

module _ (xs : List ℕ) (s e : ℕ) (le : s ≤ e) (within : e ≤ length xs) where
  abbrev part : List ℕ
  part = take (e - s) (drop s xs)

  inside : (k : ℕ) → k < length part → k < e - s
  inside k l = let long = part_long xs s e le within in omega (arith, l, long)

  at : (k : ℕ) → k < length part → s + k < length xs
  at k l = let i = inside k l in omega (arith, i, within)

  same : (k : ℕ) → k < length part → get_or part k 0 ≡ get_or xs (s + k) 0
  same k l = part_at xs s e k (inside k l)

  rise : Rise xs → Rise part
  rise r i j l m =
      let a = same i (omega (arith, l, m)) in
      let b = same j m in
      let up = r (s + i) (s + j) (omega (arith, l)) (at j m) in
      omega (arith, a, b, up)

  low : (from k : ℕ) → ((q : ℕ) → s ≤ q → q < e → from ≤ get_or xs q 0) → k < length part → from ≤ get_or part k 0
  low from k h l = let a = same k l in let i = inside k l in let b = h (s + k) (omega arith) (omega (arith, i)) in omega (arith, a, b)

  high : (upto k : ℕ) → ((q : ℕ) → s ≤ q → q < e → get_or xs q 0 < upto) → k < length part → get_or part k 0 < upto
  high upto k h l = let a = same k l in let i = inside k l in let b = h (s + k) (omega arith) (omega (arith, i)) in omega (arith, a, b)

  all : (i q : ℕ) → s ≤ q → q < e → ((k : ℕ) → k < length part → get_or part k 0 ≡ i → ⊥) → get_or xs q 0 ≡ i → ⊥
  all i q l m none is =
      let long = part_long xs s e le within in
      let k : q - s < length part = omega (arith, l, m, long) in
      let back : s + (q - s) ≡ q = omega (arith, l) in
      none (q - s) k (same (q - s) k ∙ ap (λ p. get_or xs p 0) back ∙ is)

pub returns-clause-at : goal.returns-clause-at
returns-clause-at c = let p = c.places_between-first in at c.args.numbers.now _ _ p.ensures.order p.ensures.within

pub returns-clause-same : goal.returns-clause-same
returns-clause-same c = let p = c.places_between-first in same c.args.numbers.now _ _ p.ensures.order p.ensures.within

pub returns-clause-rise : goal.returns-clause-rise
returns-clause-rise c = let p = c.places_between-first in rise c.args.numbers.now _ _ p.ensures.order p.ensures.within c.requires.rise

pub returns-clause-from : goal.returns-clause-from
returns-clause-from c = let p = c.places_between-first in λ k. low c.args.numbers.now _ _ p.ensures.order p.ensures.within c.args.from k p.ensures.from

pub returns-clause-upto : goal.returns-clause-upto
returns-clause-upto c = let p = c.places_between-first in λ k. high c.args.numbers.now _ _ p.ensures.order p.ensures.within c.args.upto k p.ensures.upto

pub returns-clause-all : goal.returns-clause-all
returns-clause-all c =
    let p = c.places_between-first in
    λ i l m none q h is. all c.args.numbers.now _ _ p.ensures.order p.ensures.within i q
    (p.ensures.after q h (subst (λ (n : ℕ). c.args.from ≤ n) (sym is) l)) (p.ensures.before q h (subst (λ (n : ℕ). n < c.args.upto) (sym is) m)) none is

pub returns-clause-fit : goal.returns-clause-fit
returns-clause-fit c =
    let p = c.places_between-first in
    λ k l. let i = inside c.args.numbers.now _ _ p.ensures.order p.ensures.within k l in omega (arith, i)
