-- Rows that flat lists lend, and lists that they keep, as entries of a matrix.
use Rattle.std.proofs.Common.{ℕ, Bool, true, false, List, refl, sym, subst, ◌∙◌}
use Rattle.std.specs.Prelude.{IsTrue, map}
use Rattle.std.specs.Ordering.{nat_cmp}
use Rattle.std.specs.FinMap.{is_sorted}
use lib.Dec.{T}
use Rattle.grb_core.specs.declared.value.Value.{Value}
use Rattle.grb_core.specs.Entries.{VectorEntries, MatrixEntries, cell_cmp}
use Rattle.grb_core.specs.Results.{row_of}
use Rattle.grb_kernels.specs.Typed.{entries_of}
use Rattle.grb_lists.specs.Stored.{paired}
use Rattle.grb_lists.specs.Cells.{codes_of}
use Rattle.grb_lists.proofs.CellCodes.{is_sorted-decoded}
use Rattle.grb_ewise.specs.Rows.{flat_entries}
use Rattle.grb_ewise.proofs.Lent.{entries-paired}
use Rattle.grb_ewise.proofs.MatrixRows.{row-sorted}

pub passes : (b : Bool) → T b → IsTrue b
passes true h = refl
passes false h = absurd h

pub holds : (b : Bool) → IsTrue b → T b
holds b e = subst T (sym e) tt

pub row_in_order : (i : ℕ) (a : MatrixEntries) → IsTrue (is_sorted cell_cmp a) → IsTrue (is_sorted nat_cmp (row_of i a))
row_in_order i a h = passes _ (row-sorted i a (holds _ h))

-- entries in order of their cells are in order of the cells' numbers
pub codes_in_order : {V : Type 0} (value : V → Value) (rows starts columns : List ℕ) (values : List V) → IsTrue (is_sorted cell_cmp (flat_entries value rows starts columns values))
    → IsTrue (is_sorted nat_cmp (paired (codes_of rows starts columns) (map value values)))
codes_in_order value rows starts columns values h =
    subst (λ (m : VectorEntries). IsTrue (is_sorted nat_cmp m)) (entries-paired value (codes_of rows starts columns) values)
    (sym (is_sorted-decoded (entries_of value (codes_of rows starts columns) values)) ∙ h)
