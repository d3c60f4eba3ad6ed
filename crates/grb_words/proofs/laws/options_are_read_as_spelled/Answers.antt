use Rattle.grb_words.proofs.OptionLemmas.{options_are_spelled, spelled_options_are_read}
use Rattle.grb_words.proofs.laws.options_are_read_as_spelled.Goals as goal

pub returns : goal.returns
returns c = record { spelled = options_are_spelled; read = spelled_options_are_read }
