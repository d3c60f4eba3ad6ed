use Rattle.std.proofs.Common.{◌≡◌, ◌≤◌, true, take}
use Rattle.grb_market.proofs.Prelude.{list_all, digits_value, is_digit}
use Rattle.grb_market.proofs.numbers.first_digits.Given as goal

abbrev pub invariant-loop-b : goal.invariant-loop-b
invariant-loop-b l = record {
  counted : l.count ≡ l.b-index;
  all : list_all is_digit (take l.b-index l.text) ≡ true;
  number : l.count ≤ 19 → l.number ≡ digits_value 10 (take l.b-index l.text);
}
