use Rattle.std.proofs.Common.{◌≡◌, List, [], ◌∷◌, ◌++◌, refl, sym, ap, ◌∙◌, subst, append-nil, arith, rules}
use Rattle.std.specs.Vec.Iter.{into_iter_items}
use Rattle.grb_run.proofs.Prelude.{NumberedCommand, Step, Stage, AreTold, commands_of, loads_among, steps_with}
use Rattle.grb_run.proofs.SectionSteps.{loads_among-append}
use Rattle.grb_run.proofs.Steps.{AreTold-next, none_left}
use Rattle.grb_run.proofs.section.answers_by.Goals as goal

pub step_of-step-requires : goal.step_of-step-requires
step_of-step-requires g c =
    let now = c.loop-numbered in
    let are : now.numbered-iterator.rest.items ≡ c.in-Some.numbered ∷ c.next.new.self.rest.items = search rules in
    omega (arith, now.invariant.count, ap (λ (ls : List NumberedCommand). loads_among (commands_of ls)) are, loads_among-append (c.in-Some.numbered.command ∷ []) (commands_of c.next.new.self.rest.items))

pub loop-numbered-preserved : goal.loop-numbered-preserved
loop-numbered-preserved g c =
    let now = c.loop-numbered in
    let are : now.numbered-iterator.rest.items ≡ c.in-Some.numbered ∷ c.next.new.self.rest.items = search rules in
    let pushed : c.push.new.self.items ≡ now.answers.items ++ c.in_ok-answer_to_step.field-0 ∷ [] = search rules in
    let first : steps_with (commands_of now.numbered-iterator.rest.items) (into_iter_items now.loads) ≡ c.step_of-step.result ∷ steps_with (commands_of c.next.new.self.rest.items) (into_iter_items c.step_of-step.new.loads)
    = ap (λ (ls : List NumberedCommand). steps_with (commands_of ls) (into_iter_items now.loads)) are ∙ c.step_of-step.ensures.first (commands_of c.next.new.self.rest.items) in
    record {
      pass = c.in_ok-answer_to_step.ensures.pass;
      count =
          omega (
            arith,
            now.invariant.count,
            c.step_of-step.ensures.rest,
            ap (λ (ls : List NumberedCommand). loads_among (commands_of ls)) are,
            loads_among-append (c.in-Some.numbered.command ∷ []) (commands_of c.next.new.self.rest.items),
          );
      told = AreTold-next c.args.context.now _ _ _ _ _ _ _ _ _ _ first pushed c.in_ok-answer_to_step.ensures.told now.invariant.told;
    }

pub returns-clause-told : goal.returns-clause-told
returns-clause-told g c =
    let now = c.loop-numbered in
    let done = none_left now.numbered-iterator.rest.items _ now.numbered-iterator.rest.ok.0 c.in-None.ensures.steps.0 in
    let here : Stage = record { objects = now.objects.items; pass = now.pass } in
    let no_steps : steps_with (commands_of now.numbered-iterator.rest.items) (into_iter_items now.loads) ≡ [] = ap (λ (ls : List NumberedCommand). steps_with (commands_of ls) (into_iter_items now.loads)) done in
    subst (λ answers. AreTold c.args.context.now (record { objects = c.args.objects.now.items; pass = c.args.pass.now }) c.args.steps answers here) (append-nil now.answers.items)
    (now.invariant.told [] here (subst (λ (s : List Step). AreTold c.args.context.now here s [] here) (sym no_steps) refl))
