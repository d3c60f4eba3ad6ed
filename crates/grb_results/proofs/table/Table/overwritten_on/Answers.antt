use Rattle.std.proofs.Common.{◌≡◌, ◌<◌, [], ◌∷◌, Some, arith, length, List, sym, ◌∙◌}
use Rattle.grb_results.proofs.Prelude.{Call, output_of, content_at, is_among, AgreeOn, inputs_of, IsBlankAt}
use Rattle.grb_results.proofs.BlankResults.{accepts_bare, bare, holds_inputs, overwritten_result, stands_empty}
use Rattle.grb_results.proofs.Frame.{agree_none}
use Rattle.grb_results.proofs.Making.{if_ok, some_at}
use Rattle.grb_results.proofs.table.Table.overwritten_on.Goals as goal

pub operated-requires-clause-accepted : goal.operated-requires-clause-accepted
operated-requires-clause-accepted g c =
    let cs : List Call = g.C.CallList.calls c.args.source.now c.args.calls.now in let t = c.args.self.now in let k = c.args.at in let call = c.args.call.now in let o = c.in-Some.output in
    let near : k < length t.results.items = omega (arith, c.requires.to_make.near, c.requires.all) in
    let output : output_of call ≡ Some o = sym c.output.ensures ∙ c.in-Some.is in
    let blank : IsBlankAt t k c.in-Some-2.value = some_at (IsBlankAt t k) c.in_ok-value.field-0 c.in-Some-2.value c.in-Some-2.is c.in_ok-value.ensures in
    accepts_bare cs t c.requires.table k near call c.requires.call o c.in-Some-2.value c.requires.to_make.accepted c.requires.operates c.requires.forgets output blank (g.O.Operates.on c.hold_inputs.new.bench)
    (c.in_ok-hold_inputs.ensures (o ∷ []) (bare cs k o)
    (c.in_ok-hold.ensures (bare cs k o) [] (agree_none _ _)
    (stands_empty cs t c.requires.table k near call c.requires.call o c.in-Some-2.value c.requires.to_make.accepted c.requires.operates c.requires.forgets output blank))
    (holds_inputs cs t c.requires.table k near call c.requires.call o c.in-Some-2.value c.requires.to_make.accepted c.requires.operates c.requires.forgets output blank))

pub returns : goal.returns
returns g c =
    let cs : List Call = g.C.CallList.calls c.args.source.now c.args.calls.now in let t = c.args.self.now in let k = c.args.at in let call = c.args.call.now in let o = c.in-Some.output in
    let near : k < length t.results.items = omega (arith, c.requires.to_make.near, c.requires.all) in
    let output : output_of call ≡ Some o = sym c.output.ensures ∙ c.in-Some.is in
    let blank : IsBlankAt t k c.in-Some-2.value = some_at (IsBlankAt t k) c.in_ok-value.field-0 c.in-Some-2.value c.in-Some-2.is c.in_ok-value.ensures in
    let agree : AgreeOn (is_among (o ∷ inputs_of call)) (content_at (g.O.Operates.on c.hold_inputs.new.bench)) (content_at (bare cs k o)) =
    c.in_ok-hold_inputs.ensures (o ∷ []) (bare cs k o)
    (c.in_ok-hold.ensures (bare cs k o) [] (agree_none _ _)
    (stands_empty cs t c.requires.table k near call c.requires.call o c.in-Some-2.value c.requires.to_make.accepted c.requires.operates c.requires.forgets output blank))
    (holds_inputs cs t c.requires.table k near call c.requires.call o c.in-Some-2.value c.requires.to_make.accepted c.requires.operates c.requires.forgets output blank) in
    if_ok _ _ c.operated.result
    (λ made makes. overwritten_result cs t c.requires.table k near call c.requires.call o c.in-Some-2.value c.requires.to_make.accepted c.requires.operates c.requires.forgets output blank
    made (g.O.Operates.on c.hold_inputs.new.bench) agree makes)
    c.operated.ensures
