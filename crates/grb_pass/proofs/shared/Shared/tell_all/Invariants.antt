use Rattle.std.proofs.Common.{◌≡◌, ℕ, ◌+◌, ◌<◌, length}
use Rattle.grb_pass.proofs.Prelude.{slice_get, Knowing, known, IsOpenedWith}
use Rattle.std.specs.Prelude.{Some}
use Rattle.grb_pass.proofs.shared.Shared.tell_all.Given as goal

abbrev pub invariant-others : goal.invariant-others
invariant-others g l = record {
  first : l.first ≡ l.fn.first;
  opened : (n : ℕ) (p : Knowing) → slice_get l.others.items n ≡ Some p → IsOpenedWith l.self l.fn.first (n + 1) p;
  count : length l.others.items ≡ length l.fn.others.items;
  told : (n : ℕ) (p : Knowing) → n < l.at → slice_get l.others.items n ≡ Some p → known p ≡ known l.fn.first;
}
