-- inside: no public contract names it. The rows of a Kronecker product (own).
use Rattle.std.specs.Prelude.{ℕ, ◌+◌, ◌*◌, ◌<◌, ◌++◌, List, [], ◌∷◌, map, IsTrue, All}
use Rattle.std.specs.FinMap.{is_sorted}
use Rattle.grb_core.specs.Entries.{MatrixEntries, cell_cmp}

-- the numbers of the rows of a product that store something: each of the first with each of the second, of which there are r
abbrev pub product_rows : ℕ → List ℕ → List ℕ → List ℕ
product_rows r [] ps = []
product_rows r (i ∷ is) ps = map (λ p. i * r + p) ps ++ product_rows r is ps

-- entries in order and within so many rows and columns
pub record AreIn (nrows ncols : ℕ) (a : MatrixEntries) : Type 0 where
  pub ordered : IsTrue (is_sorted cell_cmp a)
  pub within : All (λ e. (e.0.0 < nrows) × (e.0.1 < ncols)) a
