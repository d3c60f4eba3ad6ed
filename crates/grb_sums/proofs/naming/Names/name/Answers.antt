use Rattle.std.proofs.Common.{◌≡◌, ℕ, zero, suc, ◌<◌, List, arith, length, get_or, sym, ap, subst, ◌∙◌}
use Rattle.grb_sums.specs.Numbers.{numbers_below-length, numbers_below-at}
use Rattle.grb_sums.specs.Naming.{names_list}
use Rattle.grb_sums.proofs.naming.Names.name.Goals as goal

own_below : (own : ℕ) (listed : List ℕ) (at : ℕ) → 0 < own → at < length (names_list own listed) → at < own
own_below zero listed at h l = absurd (omega (arith, h))
own_below (suc own) listed at h l = let long = numbers_below-length (suc own) in omega (arith, l, long)

own_name : (own : ℕ) (listed : List ℕ) (at : ℕ) → 0 < own → at < length (names_list own listed) → at ≡ get_or (names_list own listed) at 0
own_name zero listed at h l = absurd (omega (arith, h))
own_name (suc own) listed at h l = sym (numbers_below-at (suc own) at (own_below (suc own) listed at h l))

pub overflow_cast-result : goal.overflow_cast-result
overflow_cast-result c =
    let below = own_below c.self.inside.own c.self.inside.listed.now c.args.at c.if-self-gt0.true (subst (λ (s : List ℕ). c.args.at < length s) (sym c.self.view_is) c.requires) in
    omega (arith, below, c.self.invariant)

pub returns-then-self-gt0 : goal.returns-then-self-gt0
returns-then-self-gt0 c =
    own_name c.self.inside.own c.self.inside.listed.now c.args.at c.if-self-gt0.true (subst (λ (s : List ℕ). c.args.at < length s) (sym c.self.view_is) c.requires)
    ∙ ap (λ (s : List ℕ). get_or s c.args.at 0) c.self.view_is
