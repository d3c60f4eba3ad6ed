use Rattle.std.proofs.Common.{◌≡◌, length, subst, sym, ap, ◌∙◌}
use Rattle.grb_pass.proofs.Prelude.{Err, OnOk, err_from_is_err_and, room_of, store_of, Knowing, Making, known, CountsCall, LooksOnce, Answer, ExplainsAnswer, IsCaughtUp, ground_of, IsRefused, IsSteady, LeavesReady, settled_after, counts_alike, steady_alike, refused_by_check, explains_refused, explains_evaluated, known_evaluated, counts_looked, looks_once, pass_same}
use Rattle.grb_call.proofs.Checked.{by_shapes-ok}
use Rattle.grb_pass.proofs.Evaluating.{state_learns}
use Rattle.grb_pass.proofs.Making.{read_none}
use Rattle.grb_pass.proofs.Settling.{ready_or, settled_read}
use Rattle.grb_pass.proofs.shared.Shared.read_at_end.Goals as goal

refused_check : (g : _) (c : goal.After-from_residual-in_err-check g) → IsRefused (room_of c.args.self.now.order) c.pass.inside.reader c.learn.new.reader c.args.call.now c.in_err-check.field-0.0
refused_check g c = refused_by_check _ _ _ c.in_ok-learn.field-0 _ _ c.in_ok-learn.ensures.finds (sym c.check.ensures ∙ c.in_err-check.was)

pub returns-in_err-check-clause-explains : goal.returns-in_err-check-clause-explains
returns-in_err-check-clause-explains g c =
    let room = room_of c.args.self.now.order in let new = c.learn.new.reader in let call = c.args.call.now in let r = c.in_err-check.field-0.0 in
    let p = err_from_is_err_and c.from_residual-in_err-check.result c.from_residual-in_err-check.ensures.1 in
    rw (p.1, p.2) (subst (λ (old : Knowing). ExplainsAnswer room old new call (Err r)) c.pass.view_is (explains_refused room _ new call r c.learn.ensures.learns (refused_check g c)))

pub returns-in_err-check-clause-caught_up : goal.returns-in_err-check-clause-caught_up
returns-in_err-check-clause-caught_up g c =
    let p = err_from_is_err_and c.from_residual-in_err-check.result c.from_residual-in_err-check.ensures.1 in
    rw (p.1, p.2) (refused_check g c).caught_up

pub returns-clause-explains : goal.returns-clause-explains
returns-clause-explains g c =
    let room = room_of c.args.self.now.order in let new = c.reply.new.self in let call = c.args.call.now in
    let is = explains_evaluated room _ c.learn.new.reader new c.in_ok-learn.field-0 call _ c.in_ok-learn.ensures.finds c.reply.ensures.replied.same c.reply.result c.learn.ensures.learns c.requires.reads (sym c.check.ensures ∙ c.in_ok-check.was) c.reply.ensures.replied.reply c.reply.ensures.memory c.reply.ensures.replied.unsettled in
    subst (λ (y : Knowing × Answer). ExplainsAnswer room y.0 new call y.1) (λ i. (c.pass.view_is i, sym c.or.ensures i)) is

pub returns-clause-caught_up : goal.returns-clause-caught_up
returns-clause-caught_up g c =
    let room = room_of c.args.self.now.order in let new = c.reply.new.self in let call = c.args.call.now in
    subst (λ (r : Answer). IsCaughtUp (ground_of r) new) (sym c.or.ensures)
    (known_evaluated room c.pass.inside.reader c.learn.new.reader new c.in_ok-learn.field-0 call c.in_ok-check.field-0 c.in_ok-learn.ensures.finds c.reply.ensures.replied.same c.reply.result)

pub returns-in_err-learn-clause-counts : goal.returns-in_err-learn-clause-counts
returns-in_err-learn-clause-counts g c = (subst (λ (old : Knowing). CountsCall (room_of c.args.self.now.order) old c.learn.new.reader) c.pass.view_is (counts_looked (room_of c.args.self.now.order) c.pass.inside.reader c.learn.new.reader c.learn.ensures.learns c.learn.ensures.counts (ap (λ (p : Knowing). p.steps) c.pass.view_is ∙ c.requires.begun) c.learn.ensures.looks))

pub returns-in_err-check-clause-counts : goal.returns-in_err-check-clause-counts
returns-in_err-check-clause-counts g c = (subst (λ (old : Knowing). CountsCall (room_of c.args.self.now.order) old c.learn.new.reader) c.pass.view_is (counts_looked (room_of c.args.self.now.order) c.pass.inside.reader c.learn.new.reader c.learn.ensures.learns c.learn.ensures.counts (ap (λ (p : Knowing). p.steps) c.pass.view_is ∙ c.requires.begun) c.learn.ensures.looks))

pub returns-clause-counts : goal.returns-clause-counts
returns-clause-counts g c = subst (λ (p : Knowing). CountsCall (room_of c.args.self.now.order) c.args.pass.now p) (sym c.reply.ensures.replied.same) (counts_alike (room_of c.args.self.now.order) c.args.pass.now c.learn.new.reader c.learn.new.reader.statuses c.reply.new.self.settled c.reply.new.self.made (subst (λ (old : Knowing). CountsCall (room_of c.args.self.now.order) old c.learn.new.reader) c.pass.view_is (counts_looked (room_of c.args.self.now.order) c.pass.inside.reader c.learn.new.reader c.learn.ensures.learns c.learn.ensures.counts (ap (λ (p : Knowing). p.steps) c.pass.view_is ∙ c.requires.begun) c.learn.ensures.looks)))

pub returns-in_err-learn-clause-looks : goal.returns-in_err-learn-clause-looks
returns-in_err-learn-clause-looks g c = subst (λ (old : Knowing). LooksOnce old c.learn.new.reader) c.pass.view_is (looks_once (room_of c.args.self.now.order) c.pass.inside.reader c.learn.new.reader c.learn.ensures.counts (ap (λ (p : Knowing). p.steps) c.pass.view_is ∙ c.requires.begun) c.learn.ensures.looks)

pub returns-in_err-check-clause-looks : goal.returns-in_err-check-clause-looks
returns-in_err-check-clause-looks g c = subst (λ (old : Knowing). LooksOnce old c.learn.new.reader) c.pass.view_is (looks_once (room_of c.args.self.now.order) c.pass.inside.reader c.learn.new.reader c.learn.ensures.counts (ap (λ (p : Knowing). p.steps) c.pass.view_is ∙ c.requires.begun) c.learn.ensures.looks)

pub returns-clause-looks : goal.returns-clause-looks
returns-clause-looks g c = subst (λ (p : Knowing). LooksOnce c.args.pass.now p) (sym c.reply.ensures.replied.same) (subst (λ (old : Knowing). LooksOnce old c.learn.new.reader) c.pass.view_is (looks_once (room_of c.args.self.now.order) c.pass.inside.reader c.learn.new.reader c.learn.ensures.counts (ap (λ (p : Knowing). p.steps) c.pass.view_is ∙ c.requires.begun) c.learn.ensures.looks))

pub returns-clause-pass : goal.returns-clause-pass
returns-clause-pass g c = pass_same c.args.self.now c.learn.new.reader c.reply.new.self (ap (λ (p : Knowing). p.order) c.reply.ensures.replied.same) (ap (λ (p : Knowing). p.shown) c.reply.ensures.replied.same) c.learn.ensures.pass

pub returns-clause-steady : goal.returns-clause-steady
returns-clause-steady g c = subst IsSteady (sym c.reply.ensures.replied.same) (steady_alike c.learn.new.reader c.learn.new.reader.statuses c.reply.new.self.settled c.reply.new.self.made c.learn.ensures.steady)

pub returns-clause-statuses : goal.returns-clause-statuses
returns-clause-statuses g c = ap (λ (p : Knowing). p.statuses) c.reply.ensures.replied.same ∙ c.learn.ensures.learns.statuses ∙ ap (λ (p : Knowing). p.statuses) c.pass.view_is

pub returns-clause-settled : goal.returns-clause-settled
returns-clause-settled g c =
    let new = c.reply.new.self in
    subst (λ (r : Answer). new.settled ≡ settled_after c.args.call.now r (length (known new)) c.args.pass.now.settled) (sym c.or.ensures)
    (settled_read c.learn.new.reader new c.args.call.now c.reply.result c.args.pass.now.settled c.reply.ensures.replied.same (c.learn.ensures.learns.settled ∙ ap (λ (p : Knowing). p.settled) c.pass.view_is) c.reply.ensures.replied.settled c.reply.ensures.replied.err)

pub returns-in_err-learn-clause-settled : goal.returns-in_err-learn-clause-settled
returns-in_err-learn-clause-settled g c =
    let new = c.learn.new.reader in
    let p = err_from_is_err_and c.from_residual.result c.from_residual.ensures.1 in
    subst (λ (r : Answer). new.settled ≡ settled_after c.args.call.now r (length (known new)) c.args.pass.now.settled) (sym p.1)
    (c.learn.ensures.learns.settled ∙ ap (λ (p : Knowing). p.settled) c.pass.view_is)

pub returns-in_err-check-clause-settled : goal.returns-in_err-check-clause-settled
returns-in_err-check-clause-settled g c =
    let new = c.learn.new.reader in
    let p = err_from_is_err_and c.from_residual-in_err-check.result c.from_residual-in_err-check.ensures.1 in
    subst (λ (r : Answer). new.settled ≡ settled_after c.args.call.now r (length (known new)) c.args.pass.now.settled) (sym p.1)
    (c.learn.ensures.learns.settled ∙ ap (λ (p : Knowing). p.settled) c.pass.view_is)

pub invariant_of-pass : goal.invariant_of-pass
invariant_of-pass g c =
    state_learns c.pass.inside.reader c.learn.new.reader c.pass.inside.evaluated c.pass.inside.row.next c.learn.ensures.learns c.learn.ensures.made c.pass.invariant

pub invariant_of-pass-in_err-check : goal.invariant_of-pass-in_err-check
invariant_of-pass-in_err-check g c =
    state_learns c.pass.inside.reader c.learn.new.reader c.pass.inside.evaluated c.pass.inside.row.next c.learn.ensures.learns c.learn.ensures.made c.pass.invariant

pub invariant_of-pass-2 : goal.invariant_of-pass-2
invariant_of-pass-2 g c =
    state_learns c.pass.inside.reader c.learn.new.reader c.pass.inside.evaluated c.pass.inside.row.next c.learn.ensures.learns c.learn.ensures.made c.pass.invariant

pub returns-clause-made : goal.returns-clause-made
returns-clause-made g c none = read_none c.learn.new.reader c.reply.new.self c.args.call.now c.args.pass.now.settled c.reply.ensures.replied.same (c.learn.ensures.learns.settled ∙ ap (λ (p : Knowing). p.settled) c.pass.view_is) (by_shapes-ok (store_of (known c.learn.new.reader)) c.args.call.now c.in_ok-check.field-0 (sym c.check.ensures ∙ c.in_ok-check.was)) c.reply.ensures.size c.reply.ensures.replied.made none ∙ ap (λ (m : Making). m.count) (c.learn.ensures.made ∙ ap (λ (p : Knowing). p.made) c.pass.view_is)

pub returns-in_err-learn-clause-made : goal.returns-in_err-learn-clause-made
returns-in_err-learn-clause-made g c none = ap (λ (m : Making). m.count) (c.learn.ensures.made ∙ ap (λ (p : Knowing). p.made) c.pass.view_is)

pub returns-in_err-check-clause-made : goal.returns-in_err-check-clause-made
returns-in_err-check-clause-made g c none = ap (λ (m : Making). m.count) (c.learn.ensures.made ∙ ap (λ (p : Knowing). p.made) c.pass.view_is)

pub returns-clause-ready : goal.returns-clause-ready
returns-clause-ready g c =
    subst (λ (r : Answer). OnOk r (LeavesReady c.reply.new.self c.args.call.now)) (sym c.or.ensures) (ready_or _ c.reply.result c.reply.ensures.replied.ready)
