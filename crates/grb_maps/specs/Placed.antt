-- inside: no public contract names it. The entries of a vector on a diagonal (own).
use Rattle.std.specs.Prelude.{ℕ, ◌+◌, map}
use Rattle.grb_core.specs.Entries.{VectorEntries, MatrixEntries}

-- each index so much further down and so much further to the right
abbrev pub placed : ℕ → ℕ → VectorEntries → MatrixEntries
placed down up u = map (λ e. ((e.0 + down, e.0 + up), e.1)) u
