-- What is computed at the rows that are wanted is a whole vector.
use Rattle.std.proofs.Common.{◌≡◌, ℕ, Bool, true, false, refl, sym, ap, subst, ◌∙◌, inl, inr}
use Rattle.std.specs.Prelude.{if◌then◌else◌}
use Rattle.std.specs.Ordering.{nat_cmp}
use Rattle.grb_core.specs.declared.domain.Domain.{Domain}
use Rattle.grb_core.specs.declared.monoid.Monoid.{Monoid}
use Rattle.grb_core.specs.Monoid.{monoid_domain}
use Rattle.grb_core.specs.Operator.{op_domain}
use Rattle.grb_core.specs.Entries.{VectorEntries, MatrixEntries, restricted}
use Rattle.grb_core.specs.Contents.{Vector, Matrix, IsVector, IsMatrix}
use Rattle.grb_core.specs.Semiring.{SemiringParts}
use Rattle.grb_core.specs.Results.{mxv_of, reduce_rows_of, turned}
use Rattle.grb_core.specs.ResultLaws.{IsBelow, AreEntries}
use Rattle.grb_core.proofs.ResultLaws.{mxv_makes_entries, reduce_rows_makes_entries}
use Rattle.grb_push.specs.Wanted.{IsMade}
use Rattle.grb_push.proofs.WholePushes.{restricted_entries}
use Rattle.grb_push.proofs.WholeResults.{matrix_entries, turned_entries, turned_rows, whole}

module _ (wanted : ℕ → Bool) where
  restricted_made : (n : ℕ) (d : Domain) (total made : VectorEntries) → made ≡ restricted wanted total → AreEntries nat_cmp (IsBelow n) d total → AreEntries nat_cmp (IsBelow n) d made
  restricted_made n d total made e h = subst (λ (x : VectorEntries). AreEntries nat_cmp (IsBelow n) d x) (sym e) (restricted_entries n d wanted total h)

  made_entries : (n : ℕ) (d : Domain) (tran : Bool) (total made : VectorEntries) → IsMade tran wanted total made → AreEntries nat_cmp (IsBelow n) d total → AreEntries nat_cmp (IsBelow n) d made
  made_entries n d true total made (inl e) h = subst (λ (x : VectorEntries). AreEntries nat_cmp (IsBelow n) d x) (sym e) h
  made_entries n d true total made (inr e) h = restricted_made n d total made e h
  made_entries n d false total made e h = restricted_made n d total made e h

  pub row_folds_made : (tran : Bool) (m : Monoid) (d : Domain) (size : ℕ) (a : Matrix) (k : MatrixEntries) (made : VectorEntries) → IsMatrix a → monoid_domain m ≡ a.domain → d ≡ a.domain
      → size ≡ (if tran then a.ncols else a.nrows) → k ≡ a.entries → IsMade tran wanted (reduce_rows_of m (turned tran k)) made → IsVector (record { domain = d; size = size; entries = made })
  row_folds_made tran m d size a k made h md e s p q =
      whole d (monoid_domain m) size (if tran then a.ncols else a.nrows) made made (turned_rows tran a h) s (e ∙ sym md) refl
      (made_entries (if tran then a.ncols else a.nrows) (monoid_domain m) tran (reduce_rows_of m (turned tran a.entries)) made
      (subst (λ (x : MatrixEntries). IsMade tran wanted (reduce_rows_of m (turned tran x)) made) p q)
      (reduce_rows_makes_entries (if tran then a.ncols else a.nrows) (if tran then a.nrows else a.ncols) m (turned tran a.entries) (turned_entries tran a (monoid_domain m) h (sym md))))

  pub mxv_made : (s : SemiringParts) (d : Domain) (size : ℕ) (a : Matrix) (u : Vector) (k : MatrixEntries) (v made : VectorEntries) → IsMatrix a → IsVector u → monoid_domain s.monoid ≡ op_domain s.op
      → a.domain ≡ op_domain s.op → u.domain ≡ op_domain s.op → u.size ≡ a.ncols → d ≡ op_domain s.op → size ≡ a.nrows → k ≡ a.entries → v ≡ u.entries → made ≡ restricted wanted (mxv_of s k v)
      → IsVector (record { domain = d; size = size; entries = made })
  mxv_made s d size a u k v made h g md ad ud us e z p r q =
      whole d (op_domain s.op) size a.nrows made made h.nrows z e refl
      (restricted_made a.nrows (op_domain s.op) (mxv_of s a.entries u.entries) made (q ∙ ap (λ (x : MatrixEntries). restricted wanted (mxv_of s x v)) p ∙ ap (λ (x : VectorEntries). restricted wanted (mxv_of s a.entries x)) r)
      (mxv_makes_entries a.nrows a.ncols s a.entries u.entries md (matrix_entries a (op_domain s.op) h ad)
      (subst (λ n. AreEntries nat_cmp (IsBelow n) (op_domain s.op) u.entries) us
      (subst (λ x. AreEntries nat_cmp (IsBelow u.size) x u.entries) ud (record { ordered = g.ordered; within = g.within; of_domain = g.of_domain })))))
