-- A script without thread sections runs as one section.
use Rattle.std.proofs.Common.{◌≡◌, ℕ, ◌+◌, List, [], ◌∷◌, ◌++◌, length, refl, sym, ap, ◌∙◌, subst, append-nil, arith}
use Rattle.grb_run.proofs.Prelude.{flat_map, StepAnswer, Shared, Knowing, known, IsAlone, AreNew, Step, Steps, IsRun, start, Stage, Answers, in_order, AreTold, AreThreadsTold, MeetsAll, IsScriptRun}
use Rattle.grb_run.proofs.AloneRuns.{standing, run_of, AreTold-append}
use Rattle.grb_run.proofs.OnePass.{new_pass, first_pass}

none_told : (context : Shared) (main : Stage) (passes : List Knowing) (threads : List (List Step)) (answers : List (List StepAnswer)) (ended : List Knowing) → threads ≡ []
    → AreThreadsTold context main passes threads answers ended → (answers ≡ []) × (ended ≡ [])
none_told context main [] [] [] [] none told = (refl, refl)
none_told context main (p ∷ passes) [] answers ended none told = absurd told
none_told context main [] [] (a ∷ answers) ended none told = absurd told
none_told context main [] [] [] (e ∷ ended) none told = absurd told
none_told context main passes (s ∷ threads) answers ended none told = cc

met_none : (context : Shared) (p q : Knowing) (ended : List Knowing) → ended ≡ [] → MeetsAll context p ended q → q ≡ p
met_none context p q [] none meets = meets
met_none context p q (e ∷ ended) none meets = cc

pub run_alone : (room : ℕ) (script : Steps) (answers : Answers) → IsScriptRun room script answers → script.threads ≡ []
    → IsRun room start (script.main ++ script.finally) (in_order answers)
run_alone room script answers run none =
    let none_there = none_told run.context run.after_main run.passes script.threads answers.threads run.ended none run.threads in
    let met : run.met ≡ run.after_main.pass = met_none run.context run.after_main.pass run.met run.ended none_there.1 run.meets in
    let one : length script.threads + 1 ≡ 1 = ap (λ (l : List (List Step)). length l + 1) none in
    let new : AreNew run.context.order 1 (run.pass ∷ run.passes) 1 = subst (λ n. AreNew run.context.order n (run.pass ∷ run.passes) n) one run.new in
    let is : run.pass ≡ new_pass run.context.order 1 = first_pass run.context.order 1 run.pass run.passes (omega arith) new in
    let alone : IsAlone run.pass = record { number = ap (λ (p : Knowing). p.view.number) is; passes = ap (λ (p : Knowing). p.view.passes) is } in
    let first : Stage = record { objects = []; pass = run.pass } in
    let last : AreTold run.context run.after_main script.finally answers.finally run.after_finally =
    subst (λ p. AreTold run.context (record { objects = run.after_main.objects; pass = p }) script.finally answers.finally run.after_finally) met run.finally in
    let whole = AreTold-append run.context first script.main answers.main run.after_main script.finally answers.finally run.after_finally run.main last in
    let all = run_of run.context first (script.main ++ script.finally) (answers.main ++ answers.finally) run.after_finally alone whole in
    let begins : standing first ≡ start = ap (λ h. record { objects = []; history = h }) (ap known is) in
    let ordered : answers.main ++ answers.finally ≡ in_order answers = ap (λ l. l ++ answers.finally) (sym (append-nil answers.main))
    ∙ ap (λ (l : List (List StepAnswer)). (answers.main ++ flat_map (λ (more : List StepAnswer). more) l) ++ answers.finally) (sym none_there.0) in
    subst (λ l. IsRun room start (script.main ++ script.finally) l) ordered
    (subst (λ at. IsRun room at (script.main ++ script.finally) (answers.main ++ answers.finally)) begins
    (subst (λ r. IsRun r (standing first) (script.main ++ script.finally) (answers.main ++ answers.finally)) run.room_is all))
