use Rattle.std.proofs.Common.{◌<◌, arith, length, List}
use Rattle.grb_results.proofs.Prelude.{Call, contents_after}
use Rattle.grb_results.proofs.Frame.{edit_held, edit_may, result_is}
use Rattle.grb_results.proofs.table.Table.edit_next.Goals as goal

pub edit-requires-clause-may : goal.edit-requires-clause-may
edit-requires-clause-may g c =
    let cs : List Call = g.C.CallList.calls c.args.source.now c.args.calls.now in let t = c.args.self.now in
    let near : c.args.at < length t.results.items = omega (arith, c.requires.to_make.near, c.requires.all) in
    let goes = c.goes_on.ensures c.if-not-goes_on.false in
    edit_may cs t c.requires.table c.args.at near c.call_at-call.result.now c.args.before c.args.value.now c.call_at-call.ensures.call c.requires.to_make.accepted goes.0 goes.1 c.requires.result

pub returns-clause-made : goal.returns-clause-made
returns-clause-made g c =
    let cs : List Call = g.C.CallList.calls c.args.source.now c.args.calls.now in let t = c.args.self.now in
    let near : c.args.at < length t.results.items = omega (arith, c.requires.to_make.near, c.requires.all) in
    let goes = c.goes_on.ensures c.if-not-goes_on.false in
    result_is cs t c.requires.table c.args.at near c.call_at-call.result.now c.edit.new.value c.call_at-call.ensures.call
    (c.in_ok-edit.ensures.ok (contents_after cs c.args.at) (edit_held cs t c.requires.table c.args.at near c.call_at-call.result.now c.args.before c.args.value.now c.call_at-call.ensures.call goes.0 goes.1 c.requires.result))
