-- What is computed of whole objects is a whole vector.
use Rattle.std.proofs.Common.{◌≡◌, ℕ, Bool, true, false, sym, subst}
use Rattle.std.specs.Prelude.{if◌then◌else◌}
use Rattle.std.specs.Ordering.{nat_cmp}
use Rattle.grb_core.specs.declared.domain.Domain.{Domain}
use Rattle.grb_core.specs.Entries.{cell_cmp, VectorEntries}
use Rattle.grb_core.specs.Contents.{Vector, Matrix, IsVector, IsMatrix, IsDimension}
use Rattle.grb_core.specs.Results.{turned}
use Rattle.grb_core.specs.ResultLaws.{IsBelow, IsCellBelow, AreEntries}
use Rattle.grb_core.proofs.ResultLaws.{transposed_makes_entries}

pub matrix_entries : (a : Matrix) (d : Domain) → IsMatrix a → a.domain ≡ d → AreEntries cell_cmp (IsCellBelow a.nrows a.ncols) d a.entries
matrix_entries a d h e = subst (λ x. AreEntries cell_cmp (IsCellBelow a.nrows a.ncols) x a.entries) e (record { ordered = h.ordered; within = h.within; of_domain = h.of_domain })

pub whole : (d e : Domain) (size rows : ℕ) (m n : VectorEntries) → IsDimension rows → size ≡ rows → d ≡ e → m ≡ n → AreEntries nat_cmp (IsBelow rows) e n
    → IsVector (record { domain = d; size = size; entries = m })
whole d e size rows m n h s t p are =
    subst (λ (v : Vector). IsVector v) (sym (λ i. record { domain = t i; size = s i; entries = p i }))
    (record { size = h; ordered = are.ordered; within = are.within; of_domain = are.of_domain })

-- a matrix that is read transposed, or as it is, has these entries and this number of rows
pub turned_entries : (tran : Bool) (a : Matrix) (d : Domain) → IsMatrix a → a.domain ≡ d
    → AreEntries cell_cmp (IsCellBelow (if tran then a.ncols else a.nrows) (if tran then a.nrows else a.ncols)) d (turned tran a.entries)
turned_entries true a d h e = transposed_makes_entries a.nrows a.ncols d a.entries (matrix_entries a d h e)
turned_entries false a d h e = matrix_entries a d h e

pub turned_rows : (tran : Bool) (a : Matrix) → IsMatrix a → IsDimension (if tran then a.ncols else a.nrows)
turned_rows true a h = h.ncols
turned_rows false a h = h.nrows
