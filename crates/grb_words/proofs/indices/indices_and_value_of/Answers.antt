use Rattle.std.proofs.Common.{◌∙◌, arith}
use Rattle.grb_words.proofs.IndicesLemmas.{indices_and_value_of-none, indices_and_value_of-second}
use Rattle.grb_words.proofs.indices.indices_and_value_of.Goals as goal

pub returns-in_default : goal.returns-in_default
returns-in_default c = indices_and_value_of-none c.args.words.now (λ l. absurd (omega arith)) (λ l. absurd (omega arith))

pub returns-in_default-2 : goal.returns-in_default-2
returns-in_default-2 c = indices_and_value_of-none c.args.words.now (λ l. absurd (omega arith)) (λ l. absurd (omega arith))

pub returns-in_err-number-in-len3-2 : goal.returns-in_err-number-in-len3-2
returns-in_err-number-in-len3-2 c =
    c.from_residual-in_err-number-in-len3-2.ensures
    ∙ indices_and_value_of-second c.args.words.now c.in_ok-number-in-len3.field-0 (omega arith) c.in_ok-number-in-len3.ensures c.in_err-number-in-len3-2.ensures
