use Rattle.std.proofs.Common.{◌<◌, arith, length, List}
use Rattle.grb_results.proofs.Prelude.{Call}
use Rattle.grb_results.proofs.Frame.{dup_result}
use Rattle.grb_results.proofs.Making.{if_ok, some_of}
use Rattle.grb_results.proofs.table.Table.dup_at.Goals as goal

pub returns-in-Some : goal.returns-in-Some
returns-in-Some g c =
    let cs : List Call = g.C.CallList.calls c.args.source.now c.args.calls.now in let t = c.args.self.now in
    let near : c.args.at < length t.results.items = omega (arith, c.requires.to_make.near, c.requires.all) in
    if_ok _ _ c.shared.result
    (λ found. some_of _ _ found (λ v result. dup_result cs t c.requires.table c.args.at near c.args.call.now c.in-Some.before v c.requires.call c.requires.dup c.in-Some.ensures result))
    (c.shared.ensures cs c.requires.table)
