use Rattle.std.proofs.Common.{get_or, refl, sym, ◌∙◌, arith}
use Rattle.std.proofs.lemmas.Grind.{common_steps}
use Rattle.grb_market.proofs.NumberLemmas.{value_of_18, value_of_one_more, number_of-short, is_ascii_digit-range}
use Rattle.grb_market.proofs.numbers.first_digits.Goals as goal

pub loop-b-preserved : goal.loop-b-preserved
loop-b-preserved c =
    let i = c.loop-b.invariant in
    let b = get_or c.args.text.now c.loop-b.b-index 0 in
    let range = is_ascii_digit-range b (sym c.is_ascii_digit.ensures.value ∙ c.if-not-is_ascii_digit.false) in
    record {
      counted = omega arith;
      all = grind (arith, common_steps);
      number = λ few.
          let now = i.number (omega (arith, few)) in
          let small = value_of_18 c.args.text.now c.loop-b.b-index i.all (omega arith) (omega (arith, i.counted, few)) in
          let more = value_of_one_more c.args.text.now c.loop-b.b-index c.loop-b.number b c.loop-b-test.true refl range.0 range.1 now in
          omega (arith, small, now, more, range.1, c.from.ensures);
    }

pub returns-clause-number : goal.returns-clause-number
returns-clause-number c =
    let i = c.loop-b.invariant in
    λ few. rw i.counted (number_of-short c.args.text.now c.loop-b.b-index c.loop-b.number i.all (omega arith) (omega (arith, i.counted, few)) (i.number few))
