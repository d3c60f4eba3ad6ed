use Rattle.std.proofs.Common.{◌<◌, arith, length, List, subst}
use Rattle.grb_results.proofs.Prelude.{Call, IfSome, IsResult}
use Rattle.grb_results.proofs.Frame.{diagonal_result}
use Rattle.grb_results.proofs.Making.{if_ok, some_of}
use Rattle.grb_results.proofs.table.Table.diagonal_at.Goals as goal

pub returns-in-Some-2 : goal.returns-in-Some-2
returns-in-Some-2 g c =
    let cs : List Call = g.C.CallList.calls c.args.source.now c.args.calls.now in let t = c.args.self.now in
    let near : c.args.at < length t.results.items = omega (arith, c.requires.to_make.near, c.requires.all) in
    let result : IsResult cs c.in-Some.before c.in-Some-2.value = subst (λ q. IfSome q (IsResult cs c.in-Some.before)) c.in-Some-2.is (c.in_ok-value.ensures cs c.requires.table) in
    if_ok _ _ c.diagonal_of.result
    (λ found. some_of _ _ found (λ made is. diagonal_result cs t c.requires.table c.args.at near c.args.v c.args.diagonal c.in-Some.before c.in-Some-2.value made c.requires.call c.in-Some.ensures result is))
    c.diagonal_of.ensures
