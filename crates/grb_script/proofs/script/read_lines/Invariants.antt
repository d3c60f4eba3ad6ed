use Rattle.std.proofs.Common.{◌+◌, ◌≤◌, length}
use Rattle.grb_script.proofs.Prelude.{seen, IsKept, listed}
use Rattle.grb_script.proofs.ScriptLemmas.{Reached}
use Rattle.grb_script.proofs.script.read_lines.Given as goal

abbrev pub invariant-loop-rest : goal.invariant-loop-rest
invariant-loop-rest l = record {
  reached : Reached l.text l.rest l.number (seen l.scope) (listed l.script) l.commands.items;
  kept : IsKept l.scope;
  numbered : l.number + length l.rest ≤ length l.text + 1;
}

abbrev pub decreases-loop-rest : goal.decreases-loop-rest
decreases-loop-rest l = length l.rest
