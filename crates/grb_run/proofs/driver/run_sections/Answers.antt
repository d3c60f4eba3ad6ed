use Rattle.std.proofs.Common.{◌≡◌, ◌++◌, length, refl, subst, rules}
use Rattle.grb_run.proofs.Prelude.{AreThreadsRun}
use Rattle.grb_run.proofs.ScriptEnds.{all_answered}
use Rattle.grb_run.proofs.driver.run_sections.Goals as goal

pub returns-clause-answers : goal.returns-clause-answers
returns-clause-answers g c =
    let total : c.append.new.self.items ≡ c.run_threads.new.answers.items ++ c.in_ok-last.last.items = search rules in
    all_answered _ _ _ (length c.args.script.threads.items) _ _ _ (record { objects = c.answers_by.new.objects.items; pass = c.answers_by.new.pass }) _ _ _ _ _ _ refl refl c.requires.new c.new-objects.ensures.items c.in_ok-answers.ensures.told
    (subst
    (λ o.
    AreThreadsRun c.args.context.now (record { objects = o; pass = c.answers_by.new.pass }) c.args.passes.items c.args.script.threads.items
    c.in_ok-answers.answers.items c.run_threads.new.main c.run_threads.new.answers.items)
    c.deref.ensures.value c.in_ok-run_threads.ensures.run)
    c.in_ok-last.ensures.told total
