use Rattle.std.proofs.Common.{◌≡◌, ◌<◌, true, false, refl, arith, ap, sym, subst, ◌∙◌, List, Bool, length, get_or, set}
use Rattle.std.specs.Prelude.{Some}
use Rattle.std.proofs.lemmas.List.{length-set}
use Rattle.grb_core.specs.Operator.{value_of_op}
use Rattle.grb_core.specs.Monoid.{monoid_op, identity_of}
use Rattle.grb_core.specs.Written.{either_value}
use Rattle.grb_semirings.specs.Open.{marked_at}
use Rattle.grb_semirings.proofs.Marks.{marked-read, marked-set_same, marked-set_other}
use Rattle.grb_mxm.specs.AllowedSums.{is_allowed, summed_of}
use Rattle.grb_sums.specs.Marks.{HoldUnmarked}
use Rattle.grb_sums.proofs.Cleared.{hold_marked}
use Rattle.grb_sums.proofs.SummedRow.{here_or_not, first_sum}
use Rattle.grb_mxm.proofs.States.{length-summed, summed-set, allowed-same, allowed-read}
use Rattle.grb_mxm.proofs.allowed_sums.add_where.Goals as goal

differ : false ≡ true → ⊥
differ e = cc

pub returns-then-states-at-eq-OUTSIDE-clause-added : goal.returns-then-states-at-eq-OUTSIDE-clause-added
returns-then-states-at-eq-OUTSIDE-clause-added g c = λ here.
    let states = c.args.states.now in
    let zero : get_or states c.args.at 0 ≡ 0 = omega arith in
    absurd (differ (sym (allowed-read states c.args.at ∙ ap is_allowed zero) ∙ here))

pub returns-clause-added : goal.returns-clause-added
returns-clause-added g c = λ here.
    let tv = g.T.Scalar.value in
    let m = g.M.MonoidOver.monoid in
    let add = value_of_op (monoid_op m) in
    let states = c.args.states.now in
    let ms = summed_of states in
    let ss = c.args.sums.now in
    let at = c.args.at in
    let old = c.index-sums-at.result in
    let new = c.add.result in
    let product = tv c.args.product in
    let long = length-summed states in
    let same : length ms ≡ length ss = omega (arith, long, c.requires.room) in
    let inside : at < length ms = omega (arith, long, c.requires.in_range) in
    let in_sums : at < length ss = omega (arith, c.requires.in_range, c.requires.room) in
    ap (λ (x : List Bool). marked_at tv x (set ss at new) at) (summed-set states at 2)
    ∙ marked-set_same tv ms ss at new inside same
    ∙ ap Some c.add.ensures
    ∙ here_or_not add (tv old) product (get_or ms at false) (first_sum tv m ms ss at old product in_sums c.index-sums-at.is c.requires.clear c.requires.of_domain)
    ∙ ap (λ v. either_value add v (Some product)) (sym (marked-read tv ms ss at old inside same c.index-sums-at.is))

pub returns-clause-others : goal.returns-clause-others
returns-clause-others g c = λ p n.
    let states = c.args.states.now in
    ap (λ (x : List Bool). marked_at g.T.Scalar.value x (set c.args.sums.now c.args.at c.add.result) p) (summed-set states c.args.at 2)
    ∙ marked-set_other g.T.Scalar.value (summed_of states) c.args.sums.now c.args.at p _ c.add.result n

pub returns-clause-allowed : goal.returns-clause-allowed
returns-clause-allowed g c = allowed-same c.args.states.now c.args.at 2 (λ e. omega (arith, e)) refl

pub returns-clause-clear : goal.returns-clause-clear
returns-clause-clear g c =
    let tv = g.T.Scalar.value in
    let v = identity_of g.M.MonoidOver.monoid in
    let states = c.args.states.now in
    let ss = c.args.sums.now in
    let at = c.args.at in
    let new = c.add.result in
    let inside : at < length (summed_of states) = omega (arith, length-summed states, c.requires.in_range) in
    subst (λ (x : List Bool). HoldUnmarked tv v x (set ss at new)) (sym (summed-set states at 2)) (hold_marked tv v (summed_of states) ss at new inside (length-set ss at new) c.requires.clear)
