-- The product of two matrices as they are read.
use Rattle.std.proofs.Common.{◌≡◌, Bool, true, false, refl, sym, ap, ◌∙◌}
use Rattle.std.specs.Prelude.{Option}
use Rattle.grb_core.specs.declared.domain.Domain.{Domain}
use Rattle.grb_core.specs.Entries.{MatrixEntries}
use Rattle.grb_core.specs.Contents.{Matrix}
use Rattle.grb_core.specs.Results.{turned}
use Rattle.grb_core.specs.Semiring.{SemiringParts}
use Rattle.grb_sparse.specs.Matrix.{SparseMatrixView}
use Rattle.grb_ewise.specs.Made.{turned_matrix}
use Rattle.grb_ewise.specs.Premises.{IsMatrixInput, columns_read, rows_read}
use Rattle.grb_ewise.proofs.ReadInputs.{domain_read, entries_read, ncols_read, nrows_read}
use Rattle.grb_ewise.proofs.WholeMatrix.{matrix_of, same_matrix}
use Rattle.grb_mxm.specs.Rows.{selected_product}

module _ (tran tran1 : Bool) (a b first second : SparseMatrixView) (p : first.matrix ≡ turned_matrix tran a.matrix) (q : second.matrix ≡ turned_matrix tran1 b.matrix) where
  first_nrows : first.matrix.nrows ≡ rows_read tran a.matrix
  first_nrows = ap (λ (m : Matrix). m.nrows) p ∙ nrows_read tran a.matrix

  second_nrows : second.matrix.nrows ≡ rows_read tran1 b.matrix
  second_nrows = ap (λ (m : Matrix). m.nrows) q ∙ nrows_read tran1 b.matrix

  pub second_ncols : second.matrix.ncols ≡ columns_read tran1 b.matrix
  second_ncols = ap (λ (m : Matrix). m.ncols) q ∙ ncols_read tran1 b.matrix

  -- both fit together as those that were read do
  pub first_fits : (d : Domain) → first.assembled ≡ true → IsMatrixInput tran d (rows_read tran a.matrix) (rows_read tran1 b.matrix) a → IsMatrixInput false d first.matrix.nrows second.matrix.nrows first
  first_fits d s h = record {
    assembled = s;
    domain = ap (λ (m : Matrix). m.domain) p ∙ domain_read tran a.matrix ∙ h.domain;
    rows = refl;
    columns = ap (λ (m : Matrix). m.ncols) p ∙ ncols_read tran a.matrix ∙ h.columns ∙ sym second_nrows;
  }

  pub second_fits : (d : Domain) → second.assembled ≡ true → IsMatrixInput tran1 d (rows_read tran1 b.matrix) (columns_read tran1 b.matrix) b
      → IsMatrixInput false d second.matrix.nrows second.matrix.ncols second
  second_fits d s h = record { assembled = s; domain = ap (λ (m : Matrix). m.domain) q ∙ domain_read tran1 b.matrix ∙ h.domain; rows = refl; columns = refl }

  -- and their product is that of the matrices as they are read
  pub product_read : (s : SemiringParts) (structure : Bool) (mask : Option MatrixEntries)
      → matrix_of first.matrix.domain first.matrix.nrows second.matrix.ncols (selected_product s structure mask first.matrix.entries second.matrix.entries)
      ≡ matrix_of a.matrix.domain (rows_read tran a.matrix) (columns_read tran1 b.matrix) (selected_product s structure mask (turned tran a.matrix.entries) (turned tran1 b.matrix.entries))
  product_read s structure mask =
      same_matrix _ _ _ _ _ _ _ _ (ap (λ (m : Matrix). m.domain) p ∙ domain_read tran a.matrix) first_nrows second_ncols
      (ap (λ (m : MatrixEntries). selected_product s structure mask m second.matrix.entries) (ap (λ (m : Matrix). m.entries) p ∙ entries_read tran a.matrix)
      ∙ ap (selected_product s structure mask (turned tran a.matrix.entries)) (ap (λ (m : Matrix). m.entries) q ∙ entries_read tran1 b.matrix))
