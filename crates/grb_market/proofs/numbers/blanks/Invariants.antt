use Rattle.std.proofs.Common.{◌≡◌, true, take}
use Rattle.grb_market.proofs.Prelude.{list_all, is_blank}
use Rattle.grb_market.proofs.numbers.blanks.Given as goal

abbrev pub invariant-loop-b : goal.invariant-loop-b
invariant-loop-b l = record {
  counted : l.count ≡ l.b-index;
  all : list_all is_blank (take l.b-index l.text) ≡ true;
}
