use Rattle.std.proofs.Common.{◌≡◌, ℕ, List, length, take}
use Rattle.grb_run.proofs.Prelude.{AreSteps, commands_of, loads_among, steps_with}
use Rattle.grb_run.proofs.loads.loads_of.Given as goal

abbrev pub invariant-loop-numbered : goal.invariant-loop-numbered
invariant-loop-numbered g l = record {
  steps : AreSteps (g.S.Source.file_bytes l.initial.source) (take l.numbered-index l.commands) (steps_with (commands_of (take l.numbered-index l.commands)) l.loads.items);
  count : length l.loads.items ≡ loads_among (commands_of (take l.numbered-index l.commands));
  faults : g.S.Source.faults l.source ≡ g.S.Source.faults l.initial.source;
  script : g.S.Source.script_bytes l.source ≡ g.S.Source.script_bytes l.initial.source;
  files : (path : List ℕ) → g.S.Source.file_bytes l.source path ≡ g.S.Source.file_bytes l.initial.source path;
}
