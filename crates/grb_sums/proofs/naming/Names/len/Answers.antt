use Rattle.std.proofs.Common.{◌≡◌, ℕ, zero, suc, ◌<◌, List, arith, length, sym, ap, ◌∙◌}
use Rattle.grb_sums.specs.Numbers.{numbers_below-length}
use Rattle.grb_sums.specs.Naming.{names_list}
use Rattle.grb_sums.proofs.naming.Names.len.Goals as goal

own_long : (own : ℕ) (listed : List ℕ) → 0 < own → own ≡ length (names_list own listed)
own_long zero listed h = absurd (omega (arith, h))
own_long (suc own) listed h = sym (numbers_below-length (suc own))

pub returns-then-self-gt0 : goal.returns-then-self-gt0
returns-then-self-gt0 c = own_long c.self.inside.own c.self.inside.listed.now c.if-self-gt0.true ∙ ap length c.self.view_is
