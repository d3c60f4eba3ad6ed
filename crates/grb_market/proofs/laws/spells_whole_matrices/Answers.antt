use Rattle.grb_market.proofs.WholeLemmas.{spell_matrices}
use Rattle.grb_market.proofs.laws.spells_whole_matrices.Goals as goal

pub returns : goal.returns
returns c = spell_matrices
