use Rattle.std.proofs.Common.{◌≡◌, false, take}
use Rattle.grb_script.proofs.Prelude.{stands}
use Rattle.grb_script.proofs.names.Names.find_in_turn.Given as goal

abbrev pub invariant-loop-number : goal.invariant-loop-number
invariant-loop-number l = stands (take l.number l.self) l.name ≡ false
