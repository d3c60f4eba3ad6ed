use Rattle.std.proofs.Common.{◌<◌, arith, length, List}
use Rattle.grb_results.proofs.Prelude.{Call}
use Rattle.grb_results.proofs.BlankResults.{cleared_result}
use Rattle.grb_results.proofs.Making.{if_ok, some_of}
use Rattle.grb_results.proofs.table.Table.cleared_at.Goals as goal

pub returns : goal.returns
returns g c =
    let cs : List Call = g.C.CallList.calls c.args.source.now c.args.calls.now in let t = c.args.self.now in
    let near : c.args.at < length t.results.items = omega (arith, c.requires.to_make.near, c.requires.all) in
    if_ok _ _ c.blank_at.result
    (λ found. some_of _ _ found (λ v blank. cleared_result cs t c.requires.table c.args.at near c.args.call.now c.requires.call v c.requires.to_make.accepted c.requires.clears blank))
    c.blank_at.ensures
