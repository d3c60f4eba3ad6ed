use Rattle.grb_words.proofs.SemiringLemmas.{semirings_are_spelled, spelled_semirings_are_read}
use Rattle.grb_words.proofs.laws.semirings_are_read_as_spelled.Goals as goal

pub returns : goal.returns
returns c = record { spelled = semirings_are_spelled; read = spelled_semirings_are_read }
