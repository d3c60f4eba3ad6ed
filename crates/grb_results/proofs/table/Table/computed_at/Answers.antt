use Rattle.std.proofs.Common.{◌<◌, arith, length, List}
use Rattle.grb_results.proofs.Prelude.{Call, contents_after}
use Rattle.grb_results.proofs.Frame.{result_is}
use Rattle.grb_results.proofs.Making.{if_ok, some_of}
use Rattle.grb_results.proofs.table.Table.computed_at.Goals as goal

pub returns-in_default-clause-found : goal.returns-in_default-clause-found
returns-in_default-clause-found g c =
    let cs : List Call = g.C.CallList.calls c.args.source.now c.args.calls.now in let t = c.args.self.now in
    let near : c.args.at < length t.results.items = omega (arith, c.requires.to_make.near, c.requires.all) in
    if_ok _ _ c.new_object.result
    (λ made f. some_of _ _ made (λ v makes. result_is cs t c.requires.table c.args.at near c.args.call.now v c.requires.call (makes (contents_after cs c.args.at))) f)
    c.new_object.ensures
