use Rattle.std.proofs.Common.{arith, inl, inr}
use Rattle.std.proofs.lemmas.Bool.{cases_lt}
use Rattle.grb_mxm.proofs.rows.places_between.Goals as goal

pub returns-clause-order : goal.returns-clause-order
returns-clause-order c =
    let first = c.count_below-first in
    let last = c.count_below-last in
    elim (cases_lt last.result first.result) [
      | inl l ↦
          let within = first.ensures.within in
          let low = first.ensures.below last.result l in
          let high = last.ensures.above last.result (omega arith) (omega (arith, l, within)) in
          let rises = c.requires.rises in
          absurd (omega (arith, low, high, rises))
      | inr l ↦ l
    ]

pub returns-clause-after : goal.returns-clause-after
returns-clause-after c = λ q l low.
    elim (cases_lt q c.count_below-first.result) [
      | inl b ↦ let s = c.count_below-first.ensures.below q b in absurd (omega (arith, s, low))
      | inr b ↦ b
    ]

pub returns-clause-before : goal.returns-clause-before
returns-clause-before c = λ q l high.
    elim (cases_lt q c.count_below-last.result) [
      | inl b ↦ b
      | inr b ↦ let s = c.count_below-last.ensures.above q b l in absurd (omega (arith, s, high))
    ]
