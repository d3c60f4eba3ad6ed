use Rattle.std.proofs.Common.{List, sym, subst, ◌∙◌}
use Rattle.std.specs.List.{All}
use Rattle.grb_reader.proofs.Prelude.{Err, Ok, IsOf, Shown, Shared, Knowing, known, IsPassOf, Begins, Met}
use Rattle.std.proofs.lemmas.Result.{err_from_is_err_and}
use Rattle.grb_reader.proofs.Answering.{length_known}
use Rattle.grb_reader.proofs.Meeting.{met}
use Rattle.grb_reader.proofs.reader.Reader.meet.Goals as goal

pub catch_up-requires : goal.catch_up-requires
catch_up-requires c = record { of = subst (λ (l : List Shown). All (IsOf c.args.records.now) l) (sym c.tell.ensures.shown) c.requires.of }

pub returns-in_err-catch_up-clause-met : goal.returns-in_err-catch_up-clause-met
returns-in_err-catch_up-clause-met c =
    let t = c.tell.ensures in let k = c.catch_up.ensures in let r = c.in_err-catch_up.field-0.0 in
    let context : Shared = record { order = c.args.order.now; records = c.args.records.now } in
    let of : IsPassOf context c.catch_up.new.self = record { order = k.order ∙ t.order ∙ c.requires.order; records = k.of } in
    let p = err_from_is_err_and c.from_residual.result c.from_residual.ensures.1 in
    rw (p.1, p.2) (met context c.args.self.now c.tell.new.self c.catch_up.new.self c.args.other.now (Err r) t.few t.shown t.statuses t.settled t.told t.steps k.learns k.view k.steps of k.steady (k.made ∙ t.made ∙ c.requires.made) c.in_err-catch_up.ensures.refused)

pub returns-clause-met : goal.returns-clause-met
returns-clause-met c =
    let t = c.tell.ensures in let k = c.catch_up.ensures in
    let context : Shared = record { order = c.args.order.now; records = c.args.records.now } in
    let of : IsPassOf context c.catch_up.new.self = record { order = k.order ∙ t.order ∙ c.requires.order; records = k.of } in
    let begins : Begins (known c.args.other.now) (known c.catch_up.new.self) = subst (λ (q : Knowing). Begins (known q) (known c.catch_up.new.self)) t.other c.agree.ensures.begins in
    subst (λ (p : Knowing). Met context c.args.self.now p c.args.other.now (Ok tt)) (sym c.agree.ensures.same)
    (met context c.args.self.now c.tell.new.self c.catch_up.new.self c.args.other.now (Ok tt) t.few t.shown t.statuses t.settled t.told t.steps k.learns k.view k.steps of k.steady (k.made ∙ t.made ∙ c.requires.made) (begins, length_known c.catch_up.new.self c.in_ok-catch_up.ensures.all))
