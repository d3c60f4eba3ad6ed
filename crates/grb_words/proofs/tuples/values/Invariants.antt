use Rattle.std.proofs.Common.{◌≡◌, drop}
use Rattle.grb_words.specs.Form.{values_in}
use Rattle.grb_words.proofs.TupleLemmas.{then, now_of}
use Rattle.grb_words.proofs.tuples.values.Given as goal

abbrev pub invariant-loop-word : goal.invariant-loop-word
invariant-loop-word l = values_in (now_of l.words) ≡ then l.values.items (values_in (now_of (drop l.word-index l.words)))
