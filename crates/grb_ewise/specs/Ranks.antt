-- believed: Numbers in rising order (own).
use Rattle.std.specs.Prelude.{ℕ, ◌<◌, List, length, slice_index}

-- numbers of which each is above those before it
abbrev pub Rise : List ℕ → Type 0
Rise names = (i j : ℕ) → i < j → j < length names → slice_index names i < slice_index names j
