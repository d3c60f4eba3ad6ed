use Rattle.std.proofs.Common.{ℕ, sym, ap, subst, ◌∙◌}
use Rattle.grb_pass.proofs.Prelude.{Knowing, known, ReadsNone}
use Rattle.grb_pass.proofs.Making.{read_only_none}
use Rattle.grb_pass.proofs.Promised.{answered, pass_kept}
use Rattle.grb_pass.proofs.shared.Shared.read.Goals as goal

pub returns-clause-pass : goal.returns-clause-pass
returns-clause-pass g c = pass_kept c.args.self.now c.read_at_end-answer.new.pass c.keep.new.self c.object.result c.read_at_end-answer.result (record { same = c.keep.ensures.same; statuses = c.keep.ensures.statuses }) c.read_at_end-answer.ensures.pass

pub returns-clause-answered : goal.returns-clause-answered
returns-clause-answered g c =
    let is = c.read_at_end-answer.ensures in
    answered c.args.self.now c.args.pass.now c.begin.new.self c.read_at_end-answer.new.pass c.keep.new.self c.object.result c.args.call.now c.read_at_end-answer.result c.begin.ensures.same c.begin.ensures.settled is.pass is.explains is.steady is.caught_up is.counts (λ _. is.looks) is.statuses is.settled c.object.ensures (λ none. read_only_none c.args.pass.now.settled _ c.args.call.now c.requires.reads (λ is_none. is.made (subst (λ (n : ℕ). ReadsNone n (known c.read_at_end-answer.new.pass) c.args.call.now) (sym (ap (λ (p : Knowing). p.settled) c.begin.ensures.same)) is_none)) none ∙ ap (λ (p : Knowing). p.made.count) c.begin.ensures.same) is.ready (record { same = c.keep.ensures.same; statuses = c.keep.ensures.statuses })
