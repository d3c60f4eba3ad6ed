use Rattle.std.proofs.Common.{◌<◌, ◌≤◌, ◌-◌, ℕ, List, arith, length, get_or, subst, sym, inl, inr}
use Rattle.std.proofs.lemmas.Bool.{cases_eq}
use Rattle.grb_ewise.specs.Ranks.{Rise}
use Rattle.grb_mxm.proofs.whole_rows.widened.Goals as goal

-- the first is the least, and the last the greatest
from_first : (ps : List ℕ) → Rise ps → (k : ℕ) → k < length ps → get_or ps 0 0 ≤ get_or ps k 0
from_first ps rise k l =
    elim (cases_eq k 0) [
      | inl e ↦ subst (λ i. get_or ps 0 0 ≤ get_or ps i 0) (sym e) (omega arith)
      | inr n ↦ let less = rise 0 k (omega (arith, n)) l in omega (arith, less)
    ]

upto_last : (ps : List ℕ) → Rise ps → (k : ℕ) → k < length ps → get_or ps k 0 ≤ get_or ps (length ps - 1) 0
upto_last ps rise k l =
    elim (cases_eq k (length ps - 1)) [
      | inl e ↦ subst (λ i. get_or ps i 0 ≤ get_or ps (length ps - 1) 0) (sym e) (omega arith)
      | inr n ↦ let less = rise k (length ps - 1) (omega (arith, n, l)) (omega (arith, l)) in omega (arith, less)
    ]

pub returns-clause-within : goal.returns-clause-within
returns-clause-within c n u all = let last = all (length c.args.places.now - 1) 0 (omega arith) in omega (arith, u, last)

pub returns-clause-after : goal.returns-clause-after
returns-clause-after c k l = let first = from_first c.args.places.now c.requires.rising k l in omega (arith, first)

pub returns-clause-before : goal.returns-clause-before
returns-clause-before c k l = let last = upto_last c.args.places.now c.requires.rising k l in omega (arith, last)
