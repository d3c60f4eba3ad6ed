-- Whole matrices.
use Rattle.std.proofs.Common.{◌≡◌, ℕ, sym, subst}
use Rattle.grb_core.specs.declared.domain.Domain.{Domain}
use Rattle.grb_core.specs.Entries.{MatrixEntries, cell_cmp}
use Rattle.grb_core.specs.Contents.{Matrix, IsMatrix, IsDimension}
use Rattle.grb_core.specs.Results.{transposed}
use Rattle.grb_core.specs.ResultLaws.{IsCellBelow, AreEntries}
use Rattle.grb_core.proofs.ResultLaws.{transposed_makes_entries}

abbrev pub matrix_of : Domain → ℕ → ℕ → MatrixEntries → Matrix
matrix_of d nrows ncols m = record { domain = d; nrows = nrows; ncols = ncols; entries = m }

entries_are : (a : Matrix) → IsMatrix a → AreEntries cell_cmp (IsCellBelow a.nrows a.ncols) a.domain a.entries
entries_are a h = record { ordered = h.ordered; within = h.within; of_domain = h.of_domain }

whole : (d : Domain) (nrows ncols : ℕ) (m : MatrixEntries) → IsDimension nrows → IsDimension ncols → AreEntries cell_cmp (IsCellBelow nrows ncols) d m → IsMatrix (matrix_of d nrows ncols m)
whole d nrows ncols m r c h = record { nrows = r; ncols = c; ordered = h.ordered; within = h.within; of_domain = h.of_domain }

pub same_matrix : (d e : Domain) (nrows nrows2 ncols ncols2 : ℕ) (m n : MatrixEntries) → d ≡ e → nrows ≡ nrows2 → ncols ≡ ncols2 → m ≡ n → matrix_of d nrows ncols m ≡ matrix_of e nrows2 ncols2 n
same_matrix d e nrows nrows2 ncols ncols2 m n p r c q = λ i. record { domain = p i; nrows = r i; ncols = c i; entries = q i }

-- a matrix that is a whole one
pub whole-same : (a b : Matrix) → a ≡ b → IsMatrix b → IsMatrix a
whole-same a b e h = subst IsMatrix (sym e) h

-- a transposed matrix is a whole one
pub transposed_whole : (a : Matrix) → IsMatrix a → IsMatrix (matrix_of a.domain a.ncols a.nrows (transposed a.entries))
transposed_whole a h =
    let turned = transposed_makes_entries a.nrows a.ncols a.domain a.entries (entries_are a h) in
    whole a.domain a.ncols a.nrows (transposed a.entries) h.ncols h.nrows turned
