use Rattle.std.proofs.Common.{Some, sym, ap, ◌∙◌}
use Rattle.grb_results.proofs.Prelude.{content_of}
use Rattle.grb_results.proofs.table.Table.shared.Goals as goal

pub returns-in_ok-share-in-Some : goal.returns-in_ok-share-in-Some
returns-in_ok-share-in-Some c cs is o t =
    is.results c.args.at c.in-Some.value.now c.in-Some.ensures.kept o t ∙ sym (ap (λ x. Some (content_of x)) c.in_ok-share-in-Some.ensures)
