use Rattle.std.proofs.Common.{◌≡◌, ◌∷◌, subst, rules}
use Rattle.grb_run.proofs.Prelude.{IfOk, Result, Ok, AllocError, All-tail, IsPassOf, FinishedSection}
use Rattle.std.specs.Prelude.{All}
use Rattle.grb_run.proofs.ThreadLemmas.{AreGathered-next}
use Rattle.grb_run.proofs.threads.gather_all.Goals as goal

pub loop-one-preserved : goal.loop-one-preserved
loop-one-preserved c =
    let here : c.loop-one.one-iterator.rest.items ≡ Ok c.in_ok-one.field-0 ∷ c.next.new.self.rest.items = search rules in
    record {
      main = c.gather.ensures.main;
      passes =
          All-tail (λ (one : Result FinishedSection AllocError). IfOk one (λ (ended : FinishedSection). IsPassOf c.args.context.now ended.pass)) (Ok c.in_ok-one.field-0) c.next.new.self.rest.items
          (subst (All (λ (one : Result FinishedSection AllocError). IfOk one (λ (ended : FinishedSection). IsPassOf c.args.context.now ended.pass))) here c.loop-one.invariant.passes);
      gathered = AreGathered-next _ _ _ _ _ _ _ _ _ _ _ here c.in_ok-gather.ensures.gathered c.loop-one.invariant.gathered;
    }
