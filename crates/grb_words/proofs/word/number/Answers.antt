use Rattle.std.proofs.Common.{◌≡◌, ◌+◌, true, ap, sym, ◌∙◌, rules, arith}
use Rattle.std.proofs.lemmas.List.{take_all}
use Rattle.std.specs.Str.Parse.{digits_value}
use Rattle.grb_words.specs.Word.{is_numeral}
use Rattle.grb_words.proofs.NumberLemmas.{digits_value-next, numeral_value-too_great, numeral_value-fits}
use Rattle.grb_words.proofs.word.number.Goals as goal

pub returns-in_err-tens : goal.returns-in_err-tens
returns-in_err-tens c =
    let numeral : is_numeral c.args.word.now ≡ true = search rules in
    let next = digits_value-next c.args.word.now c.loop-b.b-index c.loop-b.number numeral (omega arith) c.loop-b.invariant.0 in
    rw c.from_residual.ensures (numeral_value-too_great c.args.word.now (c.loop-b.b-index + 1) (omega (arith, c.in_err-tens.ensures)))

pub returns-in_err-number : goal.returns-in_err-number
returns-in_err-number c =
    let numeral : is_numeral c.args.word.now ≡ true = search rules in
    let next = digits_value-next c.args.word.now c.loop-b.b-index c.loop-b.number numeral (omega arith) c.loop-b.invariant.0 in
    rw c.from_residual-in_err-number.ensures (numeral_value-too_great c.args.word.now (c.loop-b.b-index + 1) (omega (arith, c.in_ok-tens.ensures, c.in_err-number.ensures, c.from.ensures)))

pub loop-b-preserved : goal.loop-b-preserved
loop-b-preserved c =
    let numeral : is_numeral c.args.word.now ≡ true = search rules in
    let next = digits_value-next c.args.word.now c.loop-b.b-index c.loop-b.number numeral (omega arith) c.loop-b.invariant.0 in
    (omega (arith, c.in_ok-tens.ensures, c.in_ok-number.ensures, c.from.ensures), omega (arith, c.in_ok-number.ensures))

pub returns : goal.returns
returns c =
    let numeral : is_numeral c.args.word.now ≡ true = search rules in
    let whole : c.loop-b.number ≡ digits_value 10 c.args.word.now = c.loop-b.invariant.0 ∙ ap (digits_value 10) (take_all c.loop-b.b-index c.args.word.now (omega arith)) in
    rw whole (sym (numeral_value-fits c.args.word.now numeral (omega (arith, c.loop-b.invariant.1))))
