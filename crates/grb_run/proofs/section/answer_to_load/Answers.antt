use Rattle.std.proofs.Common.{◌≡◌, false, length, rules}
use Rattle.grb_run.proofs.Prelude.{Stage}
use Rattle.std.specs.Result.{is_err}
use Rattle.grb_run.proofs.Steps.{load_told}
use Rattle.grb_run.proofs.section.answer_to_load.Goals as goal

pub returns-clause-told : goal.returns-clause-told
returns-clause-told c =
    let unrefused : false ≡ is_err c.in_ok-made.made = search rules in
    let named : c.len-name.result ≡ length c.args.objects.now.items = search rules in
    let at : Stage = record { objects = c.args.objects.now.items; pass = c.args.pass.now } in
    let between : Stage = record { objects = c.answer_to.new.objects.items; pass = c.answer_to.new.pass } in
    let after : Stage = record { objects = c.answer_to-2.new.objects.items; pass = c.answer_to-2.new.pass } in
    load_told c.args.context.now at between after c.args.loaded _ _ _ c.in_ok-made.made c.answer_to-2.result c.making-first.ensures named c.in_ok-second.ensures
    unrefused (record { answered = c.in_ok-made.ensures.answered; objects = c.in_ok-made.ensures.objects }) c.answer_to-2.ensures.answered c.answer_to-2.ensures.objects
