use Rattle.grb_market.proofs.SpellsLemmas.{faultless_texts_spell, spelling_texts_are_faultless}
use Rattle.grb_market.proofs.laws.spells_or_has_a_fault.Goals as goal

pub returns : goal.returns
returns c = record { faultless = faultless_texts_spell; spelling = spelling_texts_are_faultless }
