use Rattle.std.proofs.Common.{◌≡◌, ◌<◌, ◌≤◌, ◌^◌, false, sym, ap, subst, ◌∙◌, arith}
use Rattle.grb_pass.proofs.Prelude.{Err, err_from_is_err_and, TableId, room_of, Call, is_build, Knowing, CountsCall, CountsTries, ExplainsAnswer, IsCaughtUp, ground_of, refused_put, explains_refused, explains_before, counts_looked, counts_tried, looks_ready}
use Rattle.grb_order.specs.declared.limits.TheConstants.{MOST_WORDS}
use Rattle.grb_reader.specs.Learning.{IsReady}
use Rattle.grb_pass.proofs.shared.Shared.enter_record.Goals as goal

pub enter_token-requires-clause-few : goal.enter_token-requires-clause-few
enter_token-requires-clause-few g c =
    let room = room_of c.args.self.now.order in let mid = c.ready.new.pass in
    let counted : CountsCall room c.args.pass.now mid = counts_looked room c.args.pass.now mid c.ready.ensures.learns c.ready.ensures.counts c.requires.begun c.ready.ensures.looks in
    let ready : IsReady room mid c.args.call = c.in_ok-ready.ensures.ready in
    let small : room ≤ MOST_WORDS = subst (λ (o : TableId). room_of o ≤ MOST_WORDS) c.ready.ensures.pass.order c.ready.ensures.steady.small in
    let few : mid.steps < 2 ^ 28 = omega (arith, counted.few, ready.room_left, small) in
    subst (λ (k : Knowing). k.steps < 2 ^ 28) (sym c.put.ensures.same) few

pub returns-in_err-ready-clause-counts : goal.returns-in_err-ready-clause-counts
returns-in_err-ready-clause-counts g c = counts_looked (room_of c.args.self.now.order) c.args.pass.now c.ready.new.pass c.ready.ensures.learns c.ready.ensures.counts c.requires.begun c.ready.ensures.looks

pub returns-in_err-token-clause-counts : goal.returns-in_err-token-clause-counts
returns-in_err-token-clause-counts g c =
    subst (λ (k : Knowing). CountsCall (room_of c.args.self.now.order) c.args.pass.now k) (sym c.put.ensures.same) (counts_looked (room_of c.args.self.now.order) c.args.pass.now c.ready.new.pass c.ready.ensures.learns c.ready.ensures.counts c.requires.begun c.ready.ensures.looks)

pub returns-clause-counts : goal.returns-clause-counts
returns-clause-counts g c =
    let room = room_of c.args.self.now.order in let old = c.args.pass.now in let mid = c.ready.new.pass in let new = c.enter_token.new.pass in
    let tries : CountsTries room mid new = subst (λ (k : Knowing). CountsTries room k new) c.put.ensures.same c.enter_token.ensures.counts in
    counts_tried room old mid new c.ready.ensures.learns c.ready.ensures.counts tries c.requires.begun (looks_ready room old mid c.args.call c.ready.ensures.looks c.in_ok-ready.ensures.ready)

pub returns-in_err-token-clause-explains : goal.returns-in_err-token-clause-explains
returns-in_err-token-clause-explains g c =
    let room = room_of c.args.self.now.order in let old = c.args.pass.now in let mid = c.ready.new.pass in let call = c.args.call in
    let p = err_from_is_err_and c.from_residual-in_err-token.result c.from_residual-in_err-token.ensures.1 in
    let is = explains_refused room old mid call _ c.ready.ensures.learns (refused_put room old mid call _ c.in_err-token.ensures.refused c.requires.enters c.in_ok-ready.ensures.ready c.in_ok-ready.ensures.looked) in
    rw (p.1, p.2) (subst (λ (k : Knowing). ExplainsAnswer room old k call (Err c.in_err-token.field-0.0)) (sym c.put.ensures.same) is)

pub returns-in_err-token-clause-caught_up : goal.returns-in_err-token-clause-caught_up
returns-in_err-token-clause-caught_up g c =
    let room = room_of c.args.self.now.order in let old = c.args.pass.now in let mid = c.ready.new.pass in let call = c.args.call in
    let p = err_from_is_err_and c.from_residual-in_err-token.result c.from_residual-in_err-token.ensures.1 in
    let is = refused_put room old mid call _ c.in_err-token.ensures.refused c.requires.enters c.in_ok-ready.ensures.ready c.in_ok-ready.ensures.looked in
    rw (p.1, p.2) (subst (λ (k : Knowing). IsCaughtUp (ground_of (Err c.in_err-token.field-0.0)) k) (sym c.put.ensures.same) is.caught_up)

pub returns-clause-explains : goal.returns-clause-explains
returns-clause-explains g c =
    let room = room_of c.args.self.now.order in let old = c.args.pass.now in let mid = c.ready.new.pass in let new = c.enter_token.new.pass in let answer = c.enter_token.result in
    let after : ExplainsAnswer room c.put.new.self new c.in_ok-token.token.call answer = c.enter_token.ensures.explains in
    let same : ExplainsAnswer room mid new c.args.call answer = subst (λ (y : Knowing × Call). ExplainsAnswer room y.0 new y.1 answer) (λ i. (c.put.ensures.same i, c.in_ok-token.ensures.put.1 i)) after in
    explains_before room old mid new c.args.call answer c.ready.ensures.learns same

pub returns-in_err-token-clause-made : goal.returns-in_err-token-clause-made
returns-in_err-token-clause-made g c plain = ap (λ (k : Knowing). k.made) c.put.ensures.same ∙ c.ready.ensures.made plain

pub returns-clause-made : goal.returns-clause-made
returns-clause-made g c plain =
    c.enter_token.ensures.made (subst (λ (x : Call). is_build x ≡ false) (sym c.in_ok-token.ensures.put.1) plain) ∙ (ap (λ (k : Knowing). k.made) c.put.ensures.same ∙ c.ready.ensures.made plain)
