use Rattle.std.proofs.Common.{List, [], ◌∷◌, ◌++◌, ap, ◌∙◌}
use Rattle.std.proofs.lemmas.List.Elements.{All-push, All-same}
use Rattle.grb_results.specs.declared.exchange.Kept.{Kept}
use Rattle.grb_results.proofs.Prelude.{IsKeptOf}
use Rattle.grb_results.proofs.Exchanging.{kept_of}
use Rattle.grb_results.proofs.table.Table.give_at.Goals as goal

pub returns-in_ok-content-in-Some : goal.returns-in_ok-content-in-Some
returns-in_ok-content-in-Some c cs is were =
    let one : Kept = record { at = c.args.at; content = c.in_ok-content-in-Some.content } in
    All-same (IsKeptOf cs) c.push_reserved.new.self.items _ (c.push_reserved.ensures.items ∙ ap (λ (ks : List Kept). ks ++ one ∷ []) c.reserve.ensures.items)
    (All-push (IsKeptOf cs) c.args.given.now.items one were
    (kept_of cs c.args.self.now c.args.at c.in_ok-content-in-Some.content c.in-Some.value.now is c.in-Some.ensures.kept c.in_ok-content-in-Some.ensures))
