use Rattle.std.proofs.Common.{sym, ◌∙◌}
use Rattle.grb_market.proofs.ApartLemmas.{rising_next}
use Rattle.grb_market.proofs.gathered.is_rising.Goals as goal

pub rest-preserved : goal.rest-preserved
rest-preserved c = rising_next c.rest.last _ c.rest.tuple-index _ _ c.rest-test.true (sym c.comes_before.ensures ∙ c.if-not-comes_before.false) c.rest.invariant
