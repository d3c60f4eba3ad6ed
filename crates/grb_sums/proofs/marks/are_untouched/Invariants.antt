use Rattle.std.proofs.Common.{◌≡◌, ◌<◌, ℕ, true, get_or}
use Rattle.grb_sums.proofs.marks.are_untouched.Given as goal

abbrev pub invariant-words : goal.invariant-words
invariant-words l = l.none ≡ true → (u : ℕ) → u < l.i → get_or l.fn.words u 0 ≡ 0
