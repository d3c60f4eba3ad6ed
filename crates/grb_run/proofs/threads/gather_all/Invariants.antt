use Rattle.std.proofs.Common.{List}
use Rattle.grb_run.proofs.Prelude.{IfOk, StepAnswer, Knowing, IsPassOf, AreGathered}
use Rattle.std.specs.Prelude.{All}
use Rattle.grb_run.proofs.threads.gather_all.Given as goal

abbrev pub invariant-loop-one : goal.invariant-loop-one
invariant-loop-one l = record {
  main : IsPassOf l.context l.main;
  passes : All (λ one. IfOk one (λ ended. IsPassOf l.context ended.pass)) l.one-iterator.rest.items;
  gathered : (after : Knowing) (answers : List StepAnswer) → AreGathered l.context l.main l.answers.items l.one-iterator.rest.items after answers
      → AreGathered l.context l.initial.main l.initial.answers.items l.fn.ended.items after answers;
}
