use Rattle.std.proofs.Common.{◌≡◌, ◌*◌, ◌<◌, ℕ, true, cond, length, drop}
use Rattle.grb_sums.specs.Bits.{is_marked}
use Rattle.grb_push.specs.Wanted.{is_among}
use Rattle.grb_push.proofs.kept.mark_each.Given as goal

-- the places so far are marked
abbrev pub invariant-places : goal.invariant-places
invariant-places l = (p : ℕ) → p < 64 * length l.fn.words → cond (is_marked l.words p) true (is_among p (drop l.i l.places)) ≡ is_among p l.places
