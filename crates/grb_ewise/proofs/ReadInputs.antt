-- Matrices as they are read.
use Rattle.std.proofs.Common.{◌≡◌, ℕ, Bool, true, false, refl, sym, ap, ◌∙◌}
use Rattle.std.specs.Prelude.{Option, None, ◌&&◌, map}
use Rattle.std.specs.FinMap.{find}
use Rattle.grb_core.specs.declared.domain.Domain.{Domain}
use Rattle.grb_core.specs.declared.value.Value.{Value}
use Rattle.grb_core.specs.Entries.{MatrixEntries, cell_cmp}
use Rattle.grb_core.specs.Contents.{Matrix, edited_matrix}
use Rattle.grb_core.specs.Results.{transposed, turned, turned_entry}
use Rattle.grb_core.specs.Written.{pointwise}
use Rattle.grb_core.proofs.Maps.{cell_cmp_total, cell_cmp-IsAntisymmetric, is_sorted-map_from, same_entries_at}
use Rattle.grb_core.specs.TransposeLaws.{TransposedStores}
use Rattle.grb_core.proofs.Written.{find-pointwise, is_sorted-pointwise}
use Rattle.grb_kernels.specs.declared.pairing.Pairing.{Pairing}
use Rattle.grb_kernels.specs.declared.pairing.Pairing.TheVariants.{Union, Intersection}
use Rattle.grb_kernels.specs.Pairing.{paired}
use Rattle.grb_sparse.specs.Matrix.{SparseMatrixView}
use Rattle.grb_ewise.specs.Made.{transposed_matrix, turned_matrix}
use Rattle.grb_ewise.specs.Objects.{IsLike, contents_of_matrix}
use Rattle.grb_ewise.specs.Premises.{IsMatrixInput, columns_read, rows_read}
use Rattle.grb_ewise.proofs.Alike.{matrix_like}
use Rattle.grb_ewise.proofs.WholeMatrix.{matrix_of, same_matrix}

-- what is made of an input as it is read fits the output
pub input_read : (tran : Bool) (of : Domain) (nrows ncols : ℕ) (a made : SparseMatrixView) (f : MatrixEntries → MatrixEntries) → IsMatrixInput tran of nrows ncols a
    → made.assembled ≡ true → made.matrix ≡ edited_matrix f (turned_matrix tran a.matrix) → IsMatrixInput false of nrows ncols made
input_read true of nrows ncols a made f h s e = record {
  assembled = s;
  domain = ap (λ (m : Matrix). m.domain) e ∙ h.domain;
  rows = ap (λ (m : Matrix). m.nrows) e ∙ h.rows;
  columns = ap (λ (m : Matrix). m.ncols) e ∙ h.columns;
}
input_read false of nrows ncols a made f h s e = record {
  assembled = s;
  domain = ap (λ (m : Matrix). m.domain) e ∙ h.domain;
  rows = ap (λ (m : Matrix). m.nrows) e ∙ h.rows;
  columns = ap (λ (m : Matrix). m.ncols) e ∙ h.columns;
}

pub entries_read : (tran : Bool) (a : Matrix) → (turned_matrix tran a).entries ≡ turned tran a.entries
entries_read true a = refl
entries_read false a = refl

pub domain_read : (tran : Bool) (a : Matrix) → (turned_matrix tran a).domain ≡ a.domain
domain_read true a = refl
domain_read false a = refl

pub nrows_read : (tran : Bool) (a : Matrix) → (turned_matrix tran a).nrows ≡ rows_read tran a
nrows_read true a = refl
nrows_read false a = refl

pub ncols_read : (tran : Bool) (a : Matrix) → (turned_matrix tran a).ncols ≡ columns_read tran a
ncols_read true a = refl
ncols_read false a = refl

-- what two transposed matrices make is the transposed of what the two make
pub pointwise-transposed : TransposedStores → (f : Option Value → Option Value → Option Value) → f None None ≡ None → (a b : MatrixEntries)
    → transposed (pointwise cell_cmp f a b) ≡ pointwise cell_cmp f (transposed a) (transposed b)
pointwise-transposed stores f none a b =
    same_entries_at cell_cmp cell_cmp_total cell_cmp-IsAntisymmetric (transposed (pointwise cell_cmp f a b)) (pointwise cell_cmp f (transposed a) (transposed b))
    (is_sorted-map_from cell_cmp cell_cmp_total (map turned_entry (pointwise cell_cmp f a b))) (is_sorted-pointwise cell_cmp_total cell_cmp-IsAntisymmetric f (transposed a) (transposed b))
    (λ q. stores (pointwise cell_cmp f a b) q.1 q.0
    ∙ find-pointwise cell_cmp_total cell_cmp-IsAntisymmetric f none (q.1, q.0) a b
    ∙ ap (λ x. f x (find cell_cmp (q.1, q.0) b)) (sym (stores a q.1 q.0))
    ∙ ap (f (find cell_cmp q (transposed a))) (sym (stores b q.1 q.0))
    ∙ sym (find-pointwise cell_cmp_total cell_cmp-IsAntisymmetric f none q (transposed a) (transposed b)))

pub paired-none : (p : Pairing) (f : Value → Value → Value) → paired p f None None ≡ None
paired-none Union f = refl
paired-none Intersection f = refl

-- two matrices that are both read transposed
pub both_turned : TransposedStores → (f : Option Value → Option Value → Option Value) → f None None ≡ None → (tran tran1 : Bool) (a b : Matrix) → (tran && tran1) ≡ true
    → transposed_matrix (matrix_of a.domain a.nrows a.ncols (pointwise cell_cmp f a.entries b.entries)) ≡ edited_matrix (λ m. pointwise cell_cmp f m (turned tran1 b.entries)) (turned_matrix tran a)
both_turned stores f none true true a b h = same_matrix _ _ _ _ _ _ _ _ refl refl refl (pointwise-transposed stores f none a.entries b.entries)
both_turned stores f none true false a b h = cc
both_turned stores f none false tran1 a b h = cc

-- what is made of two matrices as they are read
pub pair_made : (f : Option Value → Option Value → Option Value) (tran tran1 : Bool) (a b : Matrix) (first second made : SparseMatrixView)
    → first.matrix ≡ turned_matrix tran a → second.matrix ≡ turned_matrix tran1 b
    → IsLike (contents_of_matrix first) (pointwise cell_cmp f first.matrix.entries second.matrix.entries) (contents_of_matrix made)
    → made.matrix ≡ edited_matrix (λ m. pointwise cell_cmp f m (turned tran1 b.entries)) (turned_matrix tran a)
pair_made f tran tran1 a b first second made p q h =
    matrix_like first made (pointwise cell_cmp f first.matrix.entries second.matrix.entries) h
    ∙ ap (edited_matrix (λ m. pointwise cell_cmp f m second.matrix.entries)) p
    ∙ ap (λ (x : MatrixEntries). edited_matrix (λ m. pointwise cell_cmp f m x) (turned_matrix tran a)) (ap (λ (x : Matrix). x.entries) q ∙ entries_read tran1 b)
