use Rattle.std.proofs.Common.{◌≡◌, ℕ, List, ◌++◌, map}
use Rattle.grb_run.proofs.Prelude.{NumberedCommand, AreThreadSteps}
use Rattle.grb_run.proofs.loads.thread_steps.Given as goal

abbrev pub invariant-loop-commands : goal.invariant-loop-commands
invariant-loop-commands g l = record {
  before : List (List NumberedCommand);
  are : map (λ commands. commands.items) l.fn.threads.items ≡ before ++ map (λ commands. commands.items) l.commands-iterator.rest.items;
  loaded : AreThreadSteps (g.S.Source.file_bytes l.initial.source) before l.all.items;
  faults : g.S.Source.faults l.source ≡ g.S.Source.faults l.initial.source;
  script : g.S.Source.script_bytes l.source ≡ g.S.Source.script_bytes l.initial.source;
  files : (path : List ℕ) → g.S.Source.file_bytes l.source path ≡ g.S.Source.file_bytes l.initial.source path;
}
