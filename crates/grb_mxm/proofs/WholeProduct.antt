-- The product of whole matrices is a whole matrix.
use Rattle.std.proofs.Common.{◌≡◌, ◌++◌, ℕ, Bool, [], sym, ap, subst, ◌∙◌, refl}
use Rattle.grb_core.specs.declared.domain.Domain.{Domain}
use Rattle.std.specs.Prelude.{Option, Some, None}
use Rattle.std.proofs.lemmas.List.Elements.{All-filter}
use Rattle.grb_core.specs.Value.{IsValueOf}
use Rattle.grb_core.specs.Mask.{is_selected}
use Rattle.grb_core.specs.Operator.{op_domain}
use Rattle.grb_core.specs.Monoid.{monoid_domain}
use Rattle.grb_core.specs.Entries.{cell_cmp, MatrixEntries}
use Rattle.grb_core.specs.Contents.{Matrix, IsMatrix}
use Rattle.grb_core.specs.Semiring.{SemiringParts}
use Rattle.grb_core.specs.Results.{mxm_of}
use Rattle.grb_core.specs.ResultLaws.{IsCellBelow, AreEntries}
use Rattle.grb_core.proofs.ResultLaws.{mxm_makes_entries}
use Rattle.grb_mxm.specs.Rows.{rows_between, selected_product}
use Rattle.grb_mxm.proofs.Blocked.{rows_whole}
use Rattle.grb_sums.proofs.Renamed.{holds, passes}
use Rattle.grb_mxm.proofs.MaskedProduct.{is_sorted-restricted}
use Rattle.grb_ewise.proofs.WholeMatrix.{matrix_of, same_matrix, whole-same}

are : (a : Matrix) (nrows ncols : ℕ) (d : Domain) → IsMatrix a → a.nrows ≡ nrows → a.ncols ≡ ncols → a.domain ≡ d → AreEntries cell_cmp (IsCellBelow nrows ncols) d a.entries
are a nrows ncols d h r c e =
    subst (λ n. AreEntries cell_cmp (IsCellBelow n ncols) d a.entries) r
    (subst (λ n. AreEntries cell_cmp (IsCellBelow a.nrows n) d a.entries) c
    (subst (λ x. AreEntries cell_cmp (IsCellBelow a.nrows a.ncols) x a.entries) e (record { ordered = h.ordered; within = h.within; of_domain = h.of_domain })))

-- what a mask leaves of entries is in order, within, and of the domain
left : (s : SemiringParts) (structure : Bool) (mask : Option MatrixEntries) (nrows ncols : ℕ) (d : Domain) (a b : MatrixEntries) → AreEntries cell_cmp (IsCellBelow nrows ncols) d (mxm_of s a b)
    → AreEntries cell_cmp (IsCellBelow nrows ncols) d (selected_product s structure mask a b)
left s structure None nrows ncols d a b h = h
left s structure (Some m) nrows ncols d a b h = record {
  ordered = passes _ (is_sorted-restricted cell_cmp (is_selected cell_cmp structure (Some m)) (mxm_of s a b) (holds _ h.ordered));
  within = All-filter (λ e. is_selected cell_cmp structure (Some m) e.0) (λ e. IsCellBelow nrows ncols e.0) (mxm_of s a b) h.within;
  of_domain = All-filter (λ e. is_selected cell_cmp structure (Some m) e.0) (λ e. IsValueOf d e.1) (mxm_of s a b) h.of_domain;
}

module _ (s : SemiringParts) (structure : Bool) (mask : Option MatrixEntries) (d : Domain) (nrows ncols : ℕ) (a b : Matrix) (k l made : MatrixEntries) (e : d ≡ op_domain s.op) (ad : a.domain ≡ op_domain s.op) (r : nrows ≡ a.nrows) (c : ncols ≡ b.ncols)
    (p : k ≡ a.entries) (q : l ≡ b.entries) (is : made ≡ selected_product s structure mask k l) where
  pub product_is : matrix_of d nrows ncols made ≡ matrix_of a.domain a.nrows b.ncols (selected_product s structure mask a.entries b.entries)
  product_is = same_matrix _ _ _ _ _ _ _ _ (e ∙ sym ad) r c (is ∙ ap (λ (m : MatrixEntries). selected_product s structure mask m l) p ∙ ap (selected_product s structure mask a.entries) q)

  pub product_whole : IsMatrix a → IsMatrix b → monoid_domain s.monoid ≡ op_domain s.op → b.domain ≡ op_domain s.op → a.ncols ≡ b.nrows → IsMatrix (matrix_of d nrows ncols made)
  product_whole g h md bd inner =
      let entries = left s structure mask a.nrows b.ncols (op_domain s.op) a.entries b.entries (mxm_makes_entries a.nrows a.ncols b.ncols s a.entries b.entries md (are a a.nrows a.ncols (op_domain s.op) g refl refl ad) (are b a.ncols b.ncols (op_domain s.op) h (sym inner) refl bd)) in
      whole-same _ _ product_is
      (subst (λ x. IsMatrix (matrix_of x a.nrows b.ncols (selected_product s structure mask a.entries b.entries))) (sym ad)
      (record { nrows = g.nrows; ncols = h.ncols; ordered = entries.ordered; within = entries.within; of_domain = entries.of_domain }))

-- all rows of the product of whole matrices, after none, are the product
module _ (s : SemiringParts) (structure : Bool) (mask : Option MatrixEntries) (d : Domain) (nrows ncols : ℕ) (a b : Matrix) (k l made before : MatrixEntries) (e : d ≡ op_domain s.op) (ad : a.domain ≡ op_domain s.op) (r : nrows ≡ a.nrows) (c : ncols ≡ b.ncols)
    (p : k ≡ a.entries) (q : l ≡ b.entries) (none : before ≡ []) (is : made ≡ before ++ rows_between 0 nrows (selected_product s structure mask k l)) where
  pub all_rows : IsMatrix a → IsMatrix b → monoid_domain s.monoid ≡ op_domain s.op → b.domain ≡ op_domain s.op → a.ncols ≡ b.nrows → made ≡ selected_product s structure mask k l
  all_rows g h md bd inner =
      let product = selected_product s structure mask k l in
      let whole : IsMatrix (matrix_of d nrows ncols product) = product_whole s structure mask d nrows ncols a b k l product e ad r c p q refl g h md bd inner in
      is ∙ ap (λ (m : MatrixEntries). m ++ rows_between 0 nrows product) none ∙ rows_whole nrows product (λ n x lt. (whole.within n x lt).0)
