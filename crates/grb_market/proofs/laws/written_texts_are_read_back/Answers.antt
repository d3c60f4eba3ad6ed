use Rattle.grb_market.proofs.CanonicalLemmas.{canonical_texts_spell, canonical_texts_are_read_back}
use Rattle.grb_market.proofs.laws.written_texts_are_read_back.Goals as goal

pub returns : goal.returns
returns c = record { spells = canonical_texts_spell; same = canonical_texts_are_read_back }
