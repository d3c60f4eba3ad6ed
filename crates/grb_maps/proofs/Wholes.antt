-- What is made of each entry of a whole object is whole.
use Rattle.std.proofs.Common.{◌≡◌, ℕ, sym, subst}
use Rattle.std.specs.Prelude.{IsTrue, Option, All, ◌<◌}
use Rattle.std.specs.Ordering.{nat_cmp}
use Rattle.std.specs.FinMap.{is_sorted}
use Rattle.std.proofs.lemmas.List.Elements.{All-from_recursion, recursion_from_All}
use Rattle.grb_core.specs.declared.domain.Domain.{Domain}
use Rattle.grb_core.specs.declared.value.Value.{Value}
use Rattle.grb_core.specs.Value.{IsValueOf}
use Rattle.grb_core.specs.Entries.{Cell, VectorEntries, MatrixEntries, cell_cmp}
use Rattle.grb_core.specs.Contents.{Vector, Matrix, IsVector, IsMatrix}
use Rattle.grb_ewise.proofs.Whole.{vector_of}
use Rattle.grb_ewise.proofs.WholeMatrix.{matrix_of}
use Rattle.grb_core.specs.Each.{each_made}
use Rattle.grb_core.proofs.Each.{holds, made_true, sorted-each, within-each}

pub matrix_whole : (g : Cell → Value → Option Value) (d : Domain) (nrows ncols : ℕ) (a : Matrix) (m : MatrixEntries) → IsMatrix a → ◌≡◌ {A = ℕ × ℕ} (nrows, ncols) (a.nrows, a.ncols)
    → m ≡ each_made g a.entries → All (λ e. IsValueOf d e.1) m → IsMatrix (matrix_of d nrows ncols m)
matrix_whole g d nrows ncols a m h s e v =
    subst (λ (n : ℕ × ℕ). IsMatrix (matrix_of d n.0 n.1 m)) (sym s) (record {
      nrows = h.nrows;
      ncols = h.ncols;
      ordered = subst (λ (n : MatrixEntries). IsTrue (is_sorted cell_cmp n)) (sym e) (made_true _ (sorted-each cell_cmp g a.entries (holds _ h.ordered)));
      within = subst (λ (n : MatrixEntries). All (λ e. (e.0.0 < a.nrows) × (e.0.1 < a.ncols)) n) (sym e)
          (All-from_recursion (λ (e : Cell × Value). (e.0.0 < a.nrows) × (e.0.1 < a.ncols)) _
          (within-each (λ (c : Cell). (c.0 < a.nrows) × (c.1 < a.ncols)) g a.entries (recursion_from_All (λ (e : Cell × Value). (e.0.0 < a.nrows) × (e.0.1 < a.ncols)) a.entries h.within)));
      of_domain = v;
    })

pub vector_whole : (g : ℕ → Value → Option Value) (d : Domain) (size : ℕ) (u : Vector) (m : VectorEntries) → IsVector u → size ≡ u.size
    → m ≡ each_made g u.entries → All (λ e. IsValueOf d e.1) m → IsVector (vector_of d size m)
vector_whole g d size u m h s e v =
    subst (λ n. IsVector (vector_of d n m)) (sym s) (record {
      size = h.size;
      ordered = subst (λ (n : VectorEntries). IsTrue (is_sorted nat_cmp n)) (sym e) (made_true _ (sorted-each nat_cmp g u.entries (holds _ h.ordered)));
      within = subst (λ (n : VectorEntries). All (λ e. e.0 < u.size) n) (sym e)
          (All-from_recursion (λ (e : ℕ × Value). e.0 < u.size) _ (within-each (λ i. i < u.size) g u.entries (recursion_from_All (λ (e : ℕ × Value). e.0 < u.size) u.entries h.within)));
      of_domain = v;
    })
