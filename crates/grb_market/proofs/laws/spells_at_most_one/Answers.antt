use Rattle.grb_market.proofs.SpellsLemmas.{spell_at_most_one}
use Rattle.grb_market.proofs.laws.spells_at_most_one.Goals as goal

pub returns : goal.returns
returns c = spell_at_most_one
