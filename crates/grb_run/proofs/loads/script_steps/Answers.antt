use Rattle.std.proofs.Common.{map, refl, ◌∙◌}
use Rattle.grb_run.proofs.Prelude.{length-map, err_from_is_err_and}
use Rattle.grb_run.proofs.LoadLemmas.{why_main, why_threads, why_last, AreThreadSteps-of, IsWhyNotLoaded-of, length-AreThreadSteps}
use Rattle.grb_run.proofs.loads.script_steps.Goals as goal

pub returns-in_err-main-clause-fault : goal.returns-in_err-main-clause-fault
returns-in_err-main-clause-fault g c =
    let p = err_from_is_err_and c.from_residual.result c.from_residual.ensures.1 in
    rw (p.1, p.2) (why_main _ _ _ _ (why_main _ _ _ _ c.in_err-main.ensures.fault))

pub returns-in_err-threads-clause-fault : goal.returns-in_err-threads-clause-fault
returns-in_err-threads-clause-fault g c =
    let p = err_from_is_err_and c.from_residual-in_err-threads.result c.from_residual-in_err-threads.ensures.1 in
    rw (p.1, p.2)
    (why_threads _ _ (map (λ commands. commands.items) c.args.script.threads.items) c.args.script.finally.items _ _ c.in_ok-main.ensures.steps (IsWhyNotLoaded-of _ _ _ _ _ c.steps_of.ensures.files_stay refl c.in_err-threads.ensures.fault))

pub returns-in_err-finally-clause-fault : goal.returns-in_err-finally-clause-fault
returns-in_err-finally-clause-fault g c =
    let p = err_from_is_err_and c.from_residual-in_err-finally.result c.from_residual-in_err-finally.ensures.1 in
    rw (p.1, p.2)
    (why_last _ _ _ _ _ _ _ c.in_ok-main.ensures.steps (AreThreadSteps-of _ _ _ _ c.steps_of.ensures.files_stay c.in_ok-threads.ensures.steps)
    (IsWhyNotLoaded-of _ _ _ _ _ (λ path. c.thread_steps.ensures.files_stay path ∙ c.steps_of.ensures.files_stay path) refl c.in_err-finally.ensures.fault))

pub returns-clause-count : goal.returns-clause-count
returns-clause-count g c =
    length-AreThreadSteps _ _ _ c.in_ok-threads.ensures.steps ∙ length-map c.args.script.threads.items (λ commands. commands.items)
