use Rattle.std.proofs.Common.{◌≡◌, ◌<◌, [], false, arith, length, List, refl, sym, subst, ◌∙◌}
use Rattle.grb_results.proofs.Prelude.{Call, Object, content_at, is_among, AgreeOn, forgets, contents_after, store_before, needs_all, some_same}
use Rattle.grb_results.proofs.Frame.{agree_none, not_refused, some_result}
use Rattle.grb_results.proofs.Making.{if_ok}
use Rattle.grb_results.proofs.table.Table.operated_on.Goals as goal

pub hold_read-requires-clause-read : goal.hold_read-requires-clause-read
hold_read-requires-clause-read g c d here =
    c.requires.read d here ∙ sym (needs_all d (subst (λ (x : Call). forgets x ≡ false) (some_same c.args.call.now d (sym c.requires.call ∙ here)) c.requires.keeps))

pub operated-requires-clause-accepted : goal.operated-requires-clause-accepted
operated-requires-clause-accepted g c =
    let cs : List Call = g.C.CallList.calls c.args.source.now c.args.calls.now in let t = c.args.self.now in
    let near : c.args.at < length t.results.items = omega (arith, c.requires.to_make.near, c.requires.all) in
    not_refused cs t c.requires.table c.args.at near (g.O.Operates.on c.hold_read.new.bench) c.args.call.now c.requires.call c.requires.to_make.accepted
    (subst (λ (os : List Object). AgreeOn (is_among os) (content_at (g.O.Operates.on c.hold_read.new.bench)) (contents_after cs c.args.at)) (c.requires.read c.args.call.now c.requires.call)
    (c.in_ok-hold_read.ensures [] (store_before cs c.args.at) (agree_none _ _) (λ o wanted. refl)))

pub returns : goal.returns
returns g c =
    let cs : List Call = g.C.CallList.calls c.args.source.now c.args.calls.now in let t = c.args.self.now in
    let near : c.args.at < length t.results.items = omega (arith, c.requires.to_make.near, c.requires.all) in
    if_ok _ _ c.operated.result
    (λ made makes. some_result cs t c.requires.table c.args.at near c.args.call.now made c.requires.call
    (makes (contents_after cs c.args.at)
    (subst (λ (os : List Object). AgreeOn (is_among os) (content_at (g.O.Operates.on c.hold_read.new.bench)) (contents_after cs c.args.at)) (c.requires.read c.args.call.now c.requires.call)
    (c.in_ok-hold_read.ensures [] (store_before cs c.args.at) (agree_none _ _) (λ o wanted. refl)))))
    c.operated.ensures
