use Rattle.std.proofs.Common.{◌≡◌, true, false, sym, ap, ◌∙◌}
use Rattle.grb_pass.proofs.Prelude.{Knowing, Making}
use Rattle.grb_pass.proofs.Making.{entered_none}
use Rattle.grb_pass.proofs.Promised.{answered, pass_kept}
use Rattle.grb_pass.proofs.Settling.{entered_ready, settled_entered}
use Rattle.grb_pass.proofs.shared.Shared.enter_copy.Goals as goal

pub returns-clause-pass : goal.returns-clause-pass
returns-clause-pass g c = pass_kept c.args.self.now c.enter_record_of_copy-answer.new.pass c.keep.new.self c.object.result c.enter_record_of_copy-answer.result (record { same = c.keep.ensures.same; statuses = c.keep.ensures.statuses }) c.enter_record_of_copy-answer.ensures.pass

pub returns-clause-answered : goal.returns-clause-answered
returns-clause-answered g c =
    let is = c.enter_record_of_copy-answer.ensures in
    answered c.args.self.now c.args.pass.now c.begin.new.self c.enter_record_of_copy-answer.new.pass c.keep.new.self c.object.result c.args.call.now c.enter_record_of_copy-answer.result c.begin.ensures.same c.begin.ensures.settled is.pass is.explains is.steady is.caught_up is.counts (λ reads. let no : true ≡ false = sym c.requires.enters ∙ reads in cc) is.statuses (is.settled ∙ sym (settled_entered c.args.call.now c.enter_record_of_copy-answer.result _ _ c.requires.enters)) c.object.ensures (λ none. ap (λ (m : Making). m.count) (entered_none c.args.pass.now.settled _ c.args.call.now c.requires.enters is.made none ∙ ap (λ (p : Knowing). p.made) c.begin.ensures.same)) (entered_ready c.enter_record_of_copy-answer.new.pass c.args.call.now c.enter_record_of_copy-answer.result c.requires.enters) (record { same = c.keep.ensures.same; statuses = c.keep.ensures.statuses })
