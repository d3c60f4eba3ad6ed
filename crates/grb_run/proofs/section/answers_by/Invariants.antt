use Rattle.std.proofs.Common.{◌≡◌, List, ◌++◌, length}
use Rattle.std.specs.Vec.Iter.{into_iter_items}
use Rattle.grb_run.proofs.Prelude.{IsPassOf, StepAnswer, Stage, AreTold, commands_of, loads_among, steps_with}
use Rattle.grb_run.proofs.section.answers_by.Given as goal

abbrev pub invariant-loop-numbered : goal.invariant-loop-numbered
invariant-loop-numbered g l = record {
  pass : IsPassOf l.context l.pass;
  count : length (into_iter_items l.loads) ≡ loads_among (commands_of l.numbered-iterator.rest.items);
  told : (rest : List StepAnswer) (after : Stage)
      → AreTold l.context (record { objects = l.objects.items; pass = l.pass }) (steps_with (commands_of l.numbered-iterator.rest.items) (into_iter_items l.loads)) rest after
      → AreTold l.context (record { objects = l.initial.objects.items; pass = l.initial.pass }) l.fn.steps (l.answers.items ++ rest) after;
}
