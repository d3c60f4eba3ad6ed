-- believed: Places from one up to another (own).
use Rattle.std.specs.Prelude.{ℕ, ◌<◌, ◌≤◌, ◌⊎◌}

-- the place is before them, or after them
abbrev pub IsOutside : ℕ → ℕ → ℕ → Type 0
IsOutside from upto h = (h < from) ⊎ (upto ≤ h)
