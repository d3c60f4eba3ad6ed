use Rattle.std.proofs.Common.{◌≡◌, ◌^◌, ◌<◌, ◌≤◌, false, None, refl, sym, subst, ap, arith, ◌∙◌}
use Rattle.grb_pass.proofs.Prelude.{err_from_is_err_and, TableId, room_of, Shown, IsOf, Call, is_build, refused_by_shapes, shapes_of, reply_of, store_of, Knowing, known, IsRefused, Learns, OwnBelow, unrefused_by_shapes, learns_refl, learns_then, pass_push, explains_refused, explains_won, known_entered, learns_lost, refused_before, counts_then, counts_same, counts_won, counts_lost, lost_again, steps_near, steps_lost, tried_none, own_learns, own_lost}
use Rattle.grb_order.specs.declared.limits.TheConstants.{MOST_WORDS}
use Rattle.grb_order.specs.Word.{order_word}
use Rattle.grb_reader.specs.Learning.{IsReady}
use Rattle.grb_pass.proofs.shared.Shared.enter_token.Goals as goal

pub tries-init : goal.tries-init
tries-init g c =
    let pass = c.args.pass.now in record {
      pass = c.requires.pass;
      learns = learns_refl pass;
      of = c.requires.of;
      own = c.requires.own;
      index = c.requires.index;
      fresh = c.requires.fresh;
      call = refl;
      ready = c.requires.ready;
      small = subst (λ (o : TableId). room_of o ≤ MOST_WORDS) c.requires.pass.order c.requires.steady.small;
      counts = counts_same pass pass refl refl;
      made = λ plain. refl;
      lost = λ earlier is. tried_none earlier pass.view is;
    }

pub enter-requires-clause-accepted : goal.enter-requires-clause-accepted
enter-requires-clause-accepted g c =
    let now = c.tries.invariant in
    let is : c.call_of-call.result.now ≡ c.args.token.call = subst (λ (x : Call). c.call_of-call.result.now ≡ x) now.call c.call_of-call.ensures.call in
    subst (λ (x : Call). refused_by_shapes (shapes_of (store_of (known c.tries.pass))) x ≡ None) (sym is) (unrefused_by_shapes (store_of (known c.tries.pass)) c.args.token.call now.ready.unrefused)

pub enter-requires-clause-fresh : goal.enter-requires-clause-fresh
enter-requires-clause-fresh g c = subst (λ (t : Shown). OwnBelow t.index c.tries.pass.view) (sym c.call_of-call.ensures.same) c.tries.invariant.fresh

pub enter-requires-clause-few : goal.enter-requires-clause-few
enter-requires-clause-few g c =
    let now = c.tries.invariant in let room_left = now.ready.room_left in
    let n : c.tries.pass.steps < 2 ^ 29 = steps_near c.args.pass.now c.tries.pass now.learns now.counts c.requires.few c.requires.ready.looked now.lost (omega (arith, room_left, now.small)) in omega (arith, n)

pub ready-requires-clause-few : goal.ready-requires-clause-few
ready-requires-clause-few g c =
    let back = c.in-Some.ensures.enters in let now = c.tries.invariant in let room_left = now.ready.room_left in
    steps_lost c.tries.pass c.enter.new.self back.2 c.enter.ensures.counts back.3
    (steps_near c.args.pass.now c.tries.pass now.learns now.counts c.requires.few c.requires.ready.looked now.lost (omega (arith, room_left, now.small)))

pub returns-in_default-clause-pass : goal.returns-in_default-clause-pass
returns-in_default-clause-pass g c =
    let token = c.call_of-call.new.token in
    pass_push c.args.self.now c.tries.pass c.enter.new.self token c.enter.ensures.order c.in_default.ensures.enters.1 (subst (λ (t : Shown). IsOf c.args.self.now.records t) (sym c.call_of-call.ensures.same) c.tries.invariant.of) c.tries.invariant.pass

pub returns-in_default-clause-explains : goal.returns-in_default-clause-explains
returns-in_default-clause-explains g c =
    let room = room_of c.args.self.now.order in let old = c.args.pass.now in let mid = c.tries.pass in let now = c.tries.invariant in let call = c.args.token.call in
    let is : c.call_of-call.result.now ≡ call = subst (λ (x : Call). c.call_of-call.result.now ≡ x) now.call c.call_of-call.ensures.call in
    let same = c.call_of-call.ensures.same in
    explains_won room old mid c.enter.new.self call c.call_of-call.new.token c.reply-reply.result now.learns now.ready c.requires.enters (ap (λ (t : Shown). t.call) same ∙ now.call) (rw same now.index)
    c.in_default.ensures.enters.0 c.in_default.ensures.enters.1
    (subst (λ (x : Call). c.reply-reply.result ≡ reply_of (store_of (known c.pass.inside.reader)) x) is c.reply-reply.ensures ∙ ap (λ (k : Knowing). reply_of (store_of (known k)) call) c.pass.view_is)

pub returns-in_default-clause-caught_up : goal.returns-in_default-clause-caught_up
returns-in_default-clause-caught_up g c =
    known_entered c.tries.pass c.enter.new.self c.call_of-call.new.token (room_of c.args.self.now.order) c.args.token.call c.tries.invariant.ready (rw c.call_of-call.ensures.same c.tries.invariant.index) c.in_default.ensures.enters.0 c.in_default.ensures.enters.1

pub returns-in_default-clause-counts : goal.returns-in_default-clause-counts
returns-in_default-clause-counts g c =
    let room = room_of c.args.self.now.order in let old = c.args.pass.now in let mid = c.tries.pass in let new = c.enter.new.self in let token = c.call_of-call.new.token in
    let now = c.tries.invariant in let won = c.in_default.ensures.enters in
    counts_won room old mid new (order_word mid.view.number token.index) now.learns now.counts c.enter.ensures.counts won.0 now.ready.room_left
    (known_entered mid new token room c.args.token.call now.ready (rw c.call_of-call.ensures.same now.index) won.0 won.1) now.lost

pub tries-preserved : goal.tries-preserved
tries-preserved g c =
    let room = room_of c.args.self.now.order in let old = c.args.pass.now in let mid = c.tries.pass in let lost = c.enter.new.self in let new = c.ready.new.pass in
    let now = c.tries.invariant in let back = c.in-Some.ensures.enters in
    let is : c.call_of-call.result.now ≡ c.args.token.call = subst (λ (x : Call). c.call_of-call.result.now ≡ x) now.call c.call_of-call.ensures.call in
    let first : Learns old lost = learns_lost room old mid lost c.args.token.call back.2 now.learns now.ready back.1 c.enter.ensures.statuses c.enter.ensures.settled back.3 in
    let all : Learns old new = learns_then old lost new first c.ready.ensures.learns in
    let token = back.0 ∙ c.call_of-call.ensures.same in
    let ready : IsReady room new c.args.token.call = subst (λ (x : Call). IsReady room new x) is c.in_ok-ready.ensures.ready in
    record {
      pass = c.ready.ensures.pass;
      learns = all;
      of = subst (λ (t : Shown). IsOf c.args.self.now.records t) (sym token) now.of;
      own = ap (λ (t : Shown). t.pass) token ∙ now.own ∙ now.learns.grown.number ∙ sym all.grown.number;
      index = rw token now.index;
      fresh = subst (λ (t : Shown). OwnBelow t.index new.view) (sym token) (own_learns c.tries.token.index lost new c.ready.ensures.learns (own_lost c.tries.token.index mid.view lost.view back.2 back.3 now.fresh));
      call = ap (λ (t : Shown). t.call) token ∙ now.call;
      ready = ready;
      small = now.small;
      counts = counts_then old lost new (counts_then old mid lost now.counts c.enter.ensures.counts) c.ready.ensures.counts;
      made = λ plain. c.ready.ensures.made (subst (λ (x : Call). is_build x ≡ false) (sym is) plain) ∙ c.enter.ensures.made ∙ now.made plain;
      lost = lost_again room old mid lost new back.2 c.args.token.call now.learns now.lost back.3 c.ready.ensures.learns c.ready.ensures.looks ready;
    }

pub returns-in_err-ready-clause-counts : goal.returns-in_err-ready-clause-counts
returns-in_err-ready-clause-counts g c =
    let room = room_of c.args.self.now.order in let old = c.args.pass.now in let mid = c.tries.pass in let lost = c.enter.new.self in let new = c.ready.new.pass in
    let now = c.tries.invariant in let back = c.in-Some.ensures.enters in
    let first : Learns old lost = learns_lost room old mid lost c.args.token.call back.2 now.learns now.ready back.1 c.enter.ensures.statuses c.enter.ensures.settled back.3 in
    let all : Learns old new = learns_then old lost new first c.ready.ensures.learns in
    counts_lost room old mid lost new back.2 now.learns all (counts_then old lost new (counts_then old mid lost now.counts c.enter.ensures.counts) c.ready.ensures.counts) now.lost back.3 c.ready.ensures.learns c.ready.ensures.looks

pub returns-in_err-ready-clause-explains : goal.returns-in_err-ready-clause-explains
returns-in_err-ready-clause-explains g c =
    let room = room_of c.args.self.now.order in let old = c.args.pass.now in let mid = c.tries.pass in let lost = c.enter.new.self in let new = c.ready.new.pass in
    let now = c.tries.invariant in let back = c.in-Some.ensures.enters in let call = c.args.token.call in
    let is : c.call_of-call.result.now ≡ call = subst (λ (x : Call). c.call_of-call.result.now ≡ x) now.call c.call_of-call.ensures.call in
    let first : Learns old lost = learns_lost room old mid lost call back.2 now.learns now.ready back.1 c.enter.ensures.statuses c.enter.ensures.settled back.3 in
    let p = err_from_is_err_and c.from_residual.result c.from_residual.ensures.1 in
    rw (p.1, p.2) (explains_refused room old new call _ (learns_then old lost new first c.ready.ensures.learns)
    (refused_before room old lost new call first _ (subst (λ (x : Call). IsRefused room lost new x c.in_err-ready.field-0.0) is c.in_err-ready.ensures.refused)))

pub returns-in_default-clause-made : goal.returns-in_default-clause-made
returns-in_default-clause-made g c plain = c.enter.ensures.made ∙ c.tries.invariant.made plain

pub returns-in_err-ready-clause-made : goal.returns-in_err-ready-clause-made
returns-in_err-ready-clause-made g c plain =
    let now = c.tries.invariant in
    let is : c.call_of-call.result.now ≡ c.args.token.call = subst (λ (x : Call). c.call_of-call.result.now ≡ x) now.call c.call_of-call.ensures.call in
    c.ready.ensures.made (subst (λ (x : Call). is_build x ≡ false) (sym is) plain) ∙ c.enter.ensures.made ∙ now.made plain
