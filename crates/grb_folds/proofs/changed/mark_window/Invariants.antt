use Rattle.std.proofs.Common.{◌≡◌, ◌+◌, ◌<◌, ℕ, false, length, get_or, take}
use Rattle.grb_rows.specs.Layers.{is_listed}
use Rattle.grb_folds.proofs.changed.mark_window.Given as goal

-- the places so far are marked
abbrev pub invariant-places : goal.invariant-places
invariant-places l = record {
  marked : (q : ℕ) → q < length l.marks → get_or l.marks q false ≡ is_listed (take l.place-index l.places) (l.start + q);
  none : l.any ≡ false → (q : ℕ) → q < length l.marks → is_listed (take l.place-index l.places) (l.start + q) ≡ false;
}
