use Rattle.std.proofs.Common.{length, List, ap, ◌∙◌, Some}
use Rattle.grb_results.proofs.Prelude.{Call, SharedContent, Learnt, content_of}
use Rattle.grb_results.proofs.Making.{some_at}
use Rattle.grb_results.proofs.table.Table.result_of.Goals as goal

pub returns-in_ok-share-in-Some-clause-result : goal.returns-in_ok-share-in-Some-clause-result
returns-in_ok-share-in-Some-clause-result g c =
    let cs : List Call = g.C.CallList.calls c.args.source.now c.args.calls.now in
    ap (λ (x : SharedContent). Some (content_of x)) c.in_ok-share-in-Some.ensures
    ∙ some_at _ c.last.result c.in-Some.value c.in-Some.is
    (c.last.ensures.content cs c.in_ok-make.ensures.table (ap (λ (l : Learnt). length l.nodes.items) c.in_ok-make.ensures.learnt ∙ c.requires.table.all))
