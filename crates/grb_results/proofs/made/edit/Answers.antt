use Rattle.std.proofs.Common.{◌∙◌, sym}
use Rattle.grb_results.proofs.Prelude.{on_ok_weaker}
use Rattle.grb_results.proofs.Making.{changes, is_held, may_edit, one, stays}
use Rattle.grb_results.proofs.made.edit.Goals as goal

pub returns-then-refuses-clause-ok : goal.returns-then-refuses-clause-ok
returns-then-refuses-clause-ok c =
    let call = c.args.call.now in let v = c.args.value.now in let edits = c.requires.edits in let may = c.requires.may in let first = one call v edits may in
    stays call v edits may (sym (c.refuses.ensures may.store first.object first.output (is_held call v edits may)) ∙ c.if-refuses.true)

pub edit-requires-clause-accepted : goal.edit-requires-clause-accepted
edit-requires-clause-accepted c =
    let call = c.args.call.now in let v = c.args.value.now in let edits = c.requires.edits in let may = c.requires.may in let first = one call v edits may in
    may_edit call v edits may (sym (c.refuses.ensures may.store first.object first.output (is_held call v edits may)) ∙ c.if-refuses.false)

pub returns-clause-ok : goal.returns-clause-ok
returns-clause-ok c =
    let call = c.args.call.now in let v = c.args.value.now in let edits = c.requires.edits in let may = c.requires.may in let first = one call v edits may in
    on_ok_weaker c.edit.result
    (λ made. changes call v edits may c.edit.new.self (sym (c.refuses.ensures may.store first.object first.output (is_held call v edits may)) ∙ c.if-refuses.false)
    (made may.store first.object first.output (is_held call v edits may)))
    c.edit.ensures.ok
