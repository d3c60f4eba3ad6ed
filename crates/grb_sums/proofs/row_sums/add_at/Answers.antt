use Rattle.std.proofs.Common.{◌≡◌, ◌<◌, ℕ, List, Bool, true, false, arith, ap, sym, subst, ◌∙◌, length, get_or, set}
use Rattle.std.specs.Prelude.{Some}
use Rattle.std.proofs.lemmas.List.{length-set}
use Rattle.grb_core.specs.Operator.{value_of_op}
use Rattle.grb_core.specs.Monoid.{monoid_op, identity_of}
use Rattle.grb_core.specs.Written.{either_value}
use Rattle.grb_semirings.specs.Open.{marked_at}
use Rattle.grb_semirings.proofs.Marks.{marked-read, marked-set_same, marked-set_other}
use Rattle.grb_sums.specs.Marks.{marks_of, AreMarks, HoldUnmarked}
use Rattle.grb_sums.proofs.Cleared.{hold_marked}
use Rattle.grb_sums.proofs.MarksOf.{length-marks_of, same_marks}
use Rattle.grb_sums.proofs.SummedRow.{here_or_not, first_sum}
use Rattle.grb_sums.proofs.row_sums.add_at.Goals as goal

-- the marks of words of which one got the bit of a place
module _ {V : Type 0} (words words2 : List ℕ) (ss : List V) (at : ℕ) (x : V) (inside : at < length ss)
    (marked : (marks : List Bool) → at < length marks → AreMarks marks words → AreMarks (set marks at true) words2) (bits : AreMarks (marks_of (length ss) words) words) where
  abbrev ms : List Bool
  ms = marks_of (length ss) words

  in_marks : at < length ms
  in_marks = omega (arith, inside, length-marks_of words (length ss))

  marks_are : marks_of (length (set ss at x)) words2 ≡ set ms at true
  marks_are = same_marks (set ms at true) words2 (length (set ss at x)) (length-set ms at true ∙ length-marks_of words (length ss) ∙ sym (length-set ss at x)) (marked ms in_marks bits)

pub returns-clause-added : goal.returns-clause-added
returns-clause-added g c =
    let tv = g.T.Scalar.value in
    let m = g.M.MonoidOver.monoid in
    let add = value_of_op (monoid_op m) in
    let ss = c.args.sums.now in
    let at = c.args.at in
    let words = c.args.words.now in
    let ms = marks_of (length ss) words in
    let old = c.index-sums-at.result in
    let new = c.add.result in
    let product = tv c.args.product in
    let long = length-marks_of words (length ss) in
    let inside : at < length ms = omega (arith, long, c.requires.in_range) in
    ap (λ (m : List Bool). marked_at tv m (set ss at new) at) (marks_are words c.mark.new.words ss at new c.requires.in_range c.mark.ensures.marked c.requires.bits)
    ∙ marked-set_same tv ms ss at new inside long
    ∙ ap Some c.add.ensures
    ∙ here_or_not add (tv old) product (get_or ms at false) (first_sum tv m ms ss at old product c.requires.in_range c.index-sums-at.is c.requires.clear c.requires.of_domain)
    ∙ ap (λ v. either_value add v (Some product)) (sym (marked-read tv ms ss at old inside long c.index-sums-at.is))

pub returns-clause-others : goal.returns-clause-others
returns-clause-others g c p n =
    let tv = g.T.Scalar.value in
    let ss = c.args.sums.now in
    let at = c.args.at in
    let words = c.args.words.now in
    let new = c.add.result in
    ap (λ (m : List Bool). marked_at tv m (set ss at new) p) (marks_are words c.mark.new.words ss at new c.requires.in_range c.mark.ensures.marked c.requires.bits)
    ∙ marked-set_other tv (marks_of (length ss) words) ss at p true new n

pub returns-clause-bits : goal.returns-clause-bits
returns-clause-bits g c =
    let ss = c.args.sums.now in
    let at = c.args.at in
    let words = c.args.words.now in
    let ms = marks_of (length ss) words in
    let new = c.add.result in
    let inside : at < length ms = omega (arith, length-marks_of words (length ss), c.requires.in_range) in
    subst (λ (m : List Bool). AreMarks m c.mark.new.words) (sym (marks_are words c.mark.new.words ss at new c.requires.in_range c.mark.ensures.marked c.requires.bits)) (c.mark.ensures.marked ms inside c.requires.bits)

pub returns-clause-clear : goal.returns-clause-clear
returns-clause-clear g c =
    let tv = g.T.Scalar.value in
    let v = identity_of g.M.MonoidOver.monoid in
    let ss = c.args.sums.now in
    let at = c.args.at in
    let words = c.args.words.now in
    let ms = marks_of (length ss) words in
    let new = c.add.result in
    let inside : at < length ms = omega (arith, length-marks_of words (length ss), c.requires.in_range) in
    subst (λ (m : List Bool). HoldUnmarked tv v m (set ss at new)) (sym (marks_are words c.mark.new.words ss at new c.requires.in_range c.mark.ensures.marked c.requires.bits))
    (hold_marked tv v ms ss at new inside (length-set ss at new) c.requires.clear)
