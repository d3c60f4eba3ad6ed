use Rattle.std.proofs.Common.{◌<◌, arith, length, List}
use Rattle.grb_results.proofs.Prelude.{Call, contents_after}
use Rattle.grb_results.proofs.Frame.{edit_held, edit_may, result_is}
use Rattle.grb_results.proofs.table.Table.edit_on.Goals as goal

pub edit-requires-clause-may : goal.edit-requires-clause-may
edit-requires-clause-may g c =
    let cs : List Call = g.C.CallList.calls c.args.source.now c.args.calls.now in let t = c.args.self.now in
    let near : c.args.at < length t.results.items = omega (arith, c.requires.to_make.near, c.requires.all) in
    edit_may cs t c.requires.table c.args.at near c.args.call.now c.args.before c.args.value c.requires.call c.requires.to_make.accepted c.requires.edits c.requires.follows c.requires.result

pub run_on-requires-clause-result : goal.run_on-requires-clause-result
run_on-requires-clause-result g c =
    let cs : List Call = g.C.CallList.calls c.args.source.now c.args.calls.now in let t = c.args.self.now in
    let near : c.args.at < length t.results.items = omega (arith, c.requires.to_make.near, c.requires.all) in
    result_is cs t c.requires.table c.args.at near c.args.call.now c.edit.new.value c.requires.call
    (c.in-Ok.ensures.ok (contents_after cs c.args.at) (edit_held cs t c.requires.table c.args.at near c.args.call.now c.args.before c.args.value c.requires.call c.requires.edits c.requires.follows c.requires.result))
