use Rattle.std.proofs.Common.{◌≡◌, ◌*◌, ◌<◌, ◌≤◌, ℕ, cond}
use Rattle.std.specs.Prelude.{◌&&◌, not}
use Rattle.grb_sums.specs.Bits.{is_marked}
use Rattle.grb_push.proofs.kept.keep_listed.Given as goal

-- the words so far have what is kept, and the others what they had
abbrev pub invariant-words : goal.invariant-words
invariant-words l = record {
  done : (p : ℕ) → p < 64 * l.w → is_marked l.words p ≡ (is_marked l.fn.words p && cond l.among (is_marked l.listed p) (not (is_marked l.listed p)));
  left : (p : ℕ) → 64 * l.w ≤ p → is_marked l.words p ≡ is_marked l.fn.words p;
}
