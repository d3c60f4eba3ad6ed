use Rattle.grb_run.proofs.Prelude.{Stage}
use Rattle.grb_run.proofs.Entries.{call_told}
use Rattle.grb_run.proofs.section.answer_to_statement.Goals as goal

pub returns-in_ok-answer_to-in_default : goal.returns-in_ok-answer_to-in_default
returns-in_ok-answer_to-in_default c =
    let at : Stage = record { objects = c.args.objects.now.items; pass = c.args.pass.now } in
    let after : Stage = record { objects = c.answer_to.new.objects.items; pass = c.answer_to.new.pass } in
    record {
      pass = c.in_ok-answer_to-in_default.ensures.pass;
      told = call_told c.args.context.now at after c.args.statement c.in_ok-answer_to-in_default.field-0 c.in_default.not-Tuples
          (record { answered = c.in_ok-answer_to-in_default.ensures.answered; objects = c.in_ok-answer_to-in_default.ensures.objects });
    }
