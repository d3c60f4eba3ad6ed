use Rattle.std.proofs.Common.{◌≡◌, ◌+◌, [], ◌∷◌, ◌++◌, List, length, take, drop, refl, sym, ap, subst, ◌∙◌, append_assoc, arith}
use Rattle.grb_run.proofs.Prelude.{take_all, take_more, take-append-drop, err_from_is_err_and, NumberedCommand, AreSteps, commands_of, loads_among, steps_with}
use Rattle.grb_run.proofs.LoadLemmas.{AreSteps-read, IsReadInto-of, StopsWith-of}
use Rattle.grb_run.proofs.loads.loads_of.Goals as goal

pub loop-numbered-init : goal.loop-numbered-init
loop-numbered-init g c = record { steps = tt; count = ap length c.new-loads.ensures.items; faults = refl; script = refl; files = λ path. refl }

pub loop-numbered-preserved : goal.loop-numbered-preserved
loop-numbered-preserved g c =
    let now = c.loop-numbered in
    let i = now.numbered-index in
    let line : NumberedCommand = c.numbered-item.result in
    let before : List NumberedCommand = take i c.args.commands.now in
    let next : take (i + 1) c.args.commands.now ≡ before ++ line ∷ [] = take_more c.args.commands.now i line c.loop-numbered-test.true
    ∙ ap (λ (x : NumberedCommand). before ++ x ∷ []) (sym c.numbered-item.is) in
    let it = AreSteps-read _ before line now.loads.items c.read_into.new.loads.items now.invariant.steps now.invariant.count (IsReadInto-of _ _ line.command _ _ now.invariant.files c.in_ok-read_into.ensures.read) in
    record {
      steps = subst (λ (b : List NumberedCommand). AreSteps (g.S.Source.file_bytes c.args.source.now) b (steps_with (commands_of b) c.read_into.new.loads.items)) (sym next) it.0;
      count = it.1 ∙ ap (λ (b : List NumberedCommand). loads_among (commands_of b)) (sym next);
      faults = c.in_ok-read_into.ensures.source_faults ∙ now.invariant.faults;
      script = c.read_into.ensures.script_stays ∙ now.invariant.script;
      files = λ path. c.read_into.ensures.files_stay path ∙ now.invariant.files path;
    }

pub returns-clause-steps : goal.returns-clause-steps
returns-clause-steps g c =
    let now = c.loop-numbered in
    subst (λ (b : List NumberedCommand). AreSteps (g.S.Source.file_bytes c.args.source.now) b (steps_with (commands_of b) now.loads.items))
    (take_all now.numbered-index c.args.commands.now (omega (arith, c.loop-numbered-test.false))) now.invariant.steps

pub returns-clause-count : goal.returns-clause-count
returns-clause-count g c =
    let now = c.loop-numbered in
    now.invariant.count ∙ ap (λ (b : List NumberedCommand). loads_among (commands_of b)) (take_all now.numbered-index c.args.commands.now (omega (arith, c.loop-numbered-test.false)))

pub returns-in_err-read_into-clause-fault : goal.returns-in_err-read_into-clause-fault
returns-in_err-read_into-clause-fault g c =
    let now = c.loop-numbered in
    let i = now.numbered-index in
    let line : NumberedCommand = c.numbered-item.result in
    let before : List NumberedCommand = take i c.args.commands.now in
    let after : List NumberedCommand = drop (i + 1) c.args.commands.now in
    let next : take (i + 1) c.args.commands.now ≡ before ++ line ∷ [] = take_more c.args.commands.now i line c.loop-numbered-test.true
    ∙ ap (λ (x : NumberedCommand). before ++ x ∷ []) (sym c.numbered-item.is) in
    let are : c.args.commands.now ≡ before ++ line ∷ after = sym (take-append-drop (i + 1) c.args.commands.now) ∙ ap (λ (b : List NumberedCommand). b ++ after) next ∙ append_assoc before (line ∷ []) after in
    let p = err_from_is_err_and c.from_residual.result c.from_residual.ensures.1 in
    rw (p.1, p.2) (StopsWith-of _ _ before line after _ _ _ are now.invariant.steps now.invariant.files c.in_err-read_into.ensures.fault)
