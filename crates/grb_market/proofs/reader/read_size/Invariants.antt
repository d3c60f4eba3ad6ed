use Rattle.std.proofs.Common.{◌+◌, ◌≤◌, length}
use Rattle.grb_market.proofs.Prelude.{AtSize, Stands}
use Rattle.grb_market.proofs.reader.read_size.Given as goal

abbrev pub invariant-loop-rest : goal.invariant-loop-rest
invariant-loop-rest l = record {
  stands : Stands l.text (AtSize l.head) l.number l.rest;
  numbered : l.number + length l.rest ≤ length l.text + 1;
}

abbrev pub decreases-loop-rest : goal.decreases-loop-rest
decreases-loop-rest l = length l.rest
