use Rattle.std.proofs.Common.{◌≡◌, ◌+◌, List, length, map, sym, ap, subst, ◌∙◌}
use Rattle.std.proofs.lemmas.List.{length_push}
use Rattle.grb_call.specs.declared.call.Call.{Call}
use Rattle.grb_results.specs.Kept.{IsTableOf}
use Rattle.test_histories.proofs.Grown.{map_push}
use Rattle.test_histories.proofs.results.learn_next.Goals as goal

pub returns-clause-table : goal.returns-clause-table
returns-clause-table c =
    subst (λ (cs : List Call). IsTableOf cs c.learn.new.self) (sym (ap (map (λ a. a.now)) c.in_ok-push.ensures.items ∙ map_push (λ a. a.now) c.args.done.now.items c.args.call))
    (record {
      table = c.in_ok-learn.ensures.grown (map (λ a. a.now) c.args.done.now.items) c.requires.table.table c.requires.table.all;
      all = c.in_ok-learn.ensures.more ∙ ap (λ n. n + 1) c.requires.table.all ∙ sym (length_push (map (λ a. a.now) c.args.done.now.items) _);
    })
