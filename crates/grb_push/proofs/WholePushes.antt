-- What a vector makes of the rows that it picks is a whole vector.
use Rattle.std.proofs.Common.{◌≡◌, ℕ, ◌<◌, Bool, true, false, List, refl, sym, ap, subst, ◌∙◌, inl, inr}
use Rattle.std.specs.Prelude.{All, IsTrue, Option, Some, None}
use Rattle.std.specs.List.{AllByRecursion}
use Rattle.std.specs.Ordering.{nat_cmp}
use Rattle.std.proofs.lemmas.List.Elements.{recursion_from_All, All-from_recursion}
use lib.Dec.{T}
use Rattle.grb_core.specs.declared.domain.Domain.{Domain}
use Rattle.grb_core.specs.declared.monoid.Monoid.{Monoid}
use Rattle.grb_core.specs.declared.value.Value.{Value}
use Rattle.grb_core.specs.Value.{IsValueOf}
use Rattle.grb_core.specs.Monoid.{monoid_domain}
use Rattle.grb_core.specs.Fold.{fold_of_some}
use Rattle.grb_core.specs.Entries.{cell_cmp, VectorEntries, MatrixEntries, restricted, values_of}
use Rattle.grb_core.specs.Contents.{Vector, Matrix, IsVector, IsMatrix}
use Rattle.grb_core.specs.Written.{pointwise, both_values}
use Rattle.grb_core.specs.Results.{column_of, columns_of}
use Rattle.grb_core.specs.ResultLaws.{IsBelow, IsCellBelow, AreEntries}
use Rattle.grb_core.proofs.Made.{Holds, all-weaker, holds_both, holds_fold, of-column, of-map_on, of-pointwise, of-values, within-columns, within-map_on}
use Rattle.grb_push.specs.Pushes.{pushed_of}
use Rattle.grb_push.specs.Wanted.{IsMade}
use Rattle.grb_push.proofs.Bounded.{all-restricted, made-same, is_sorted-restricted}
use Rattle.grb_push.proofs.Columns.{is_sorted-each_column}
use Rattle.grb_push.proofs.WholeResults.{matrix_entries, whole}

passes : (b : Bool) → T b → IsTrue b
passes true h = refl
passes false h = absurd h

holds : (b : Bool) → IsTrue b → T b
holds b e = subst T (sym e) tt

module _ (n : ℕ) (d : Domain) where
  pub restricted_entries : (t : ℕ → Bool) (m : VectorEntries) → AreEntries nat_cmp (IsBelow n) d m → AreEntries nat_cmp (IsBelow n) d (restricted t m)
  restricted_entries t m h = record {
    ordered = passes _ (is_sorted-restricted t m (holds _ h.ordered));
    within = All-from_recursion (λ (e : ℕ × Value). e.0 < n) _ (all-restricted (λ e. e.0 < n) t m (recursion_from_All _ m h.within));
    of_domain = All-from_recursion (λ (e : ℕ × Value). IsValueOf d e.1) _ (all-restricted (λ e. IsValueOf d e.1) t m (recursion_from_All _ m h.of_domain));
  }

  -- what is made is in order, within the same places and of the same domain
  pub made_entries : (whole : Bool) (wanted : ℕ → Bool) (total made : VectorEntries) → IsMade whole wanted total made → AreEntries nat_cmp (IsBelow n) d total → AreEntries nat_cmp (IsBelow n) d made
  made_entries true wanted total made (inl e) h = subst (λ (x : VectorEntries). AreEntries nat_cmp (IsBelow n) d x) (sym e) h
  made_entries true wanted total made (inr e) h = subst (λ (x : VectorEntries). AreEntries nat_cmp (IsBelow n) d x) (sym e) (restricted_entries wanted total h)
  made_entries false wanted total made e h = subst (λ (x : VectorEntries). AreEntries nat_cmp (IsBelow n) d x) (sym e) (restricted_entries wanted total h)

module _ (m : Monoid) (f : Value → Value → Value) (d : Domain) (closed : (x y : Value) → IsValueOf d x → IsValueOf d y → IsValueOf d (f x y)) (md : monoid_domain m ≡ d) where
  pushed_is : (u c : VectorEntries) → AllByRecursion (λ e. IsValueOf d e.1) u → AllByRecursion (λ e. IsValueOf d e.1) c → Holds (IsValueOf d) (fold_of_some m (values_of (pointwise nat_cmp (both_values f) u c)))
  pushed_is u c g h =
      let products : VectorEntries = pointwise nat_cmp (both_values f) u c in
      let is = of-values (IsValueOf d) products (of-pointwise nat_cmp (IsValueOf d) (both_values f) (holds_both (IsValueOf d) f closed) u c g h) in
      subst (λ w. Holds (IsValueOf w) (fold_of_some m (values_of products))) md
      (holds_fold m (values_of products) (subst (λ w. AllByRecursion (IsValueOf w) (values_of products)) (sym md) is))

  pushed_makes_entries : (nrows ncols : ℕ) (u : VectorEntries) (a : MatrixEntries) → AllByRecursion (λ e. IsValueOf d e.1) u → AreEntries cell_cmp (IsCellBelow nrows ncols) d a
      → AreEntries nat_cmp (IsBelow ncols) d (pushed_of m f u a)
  pushed_makes_entries nrows ncols u a g h =
      let made : ℕ → Option Value = λ j. fold_of_some m (values_of (pointwise nat_cmp (both_values f) u (column_of j a))) in
      let below = all-weaker (λ (e : (ℕ × ℕ) × Value). e.0.1 < ncols) (λ e. (e.0.0 < nrows) × (e.0.1 < ncols)) (λ e q. q.1) a (recursion_from_All _ a h.within) in
      record {
        ordered = passes _ (is_sorted-each_column (λ c. fold_of_some m (values_of (pointwise nat_cmp (both_values f) u c))) a);
        within = All-from_recursion (λ (e : ℕ × Value). e.0 < ncols) _ (within-map_on (λ j. j < ncols) made (columns_of a) (within-columns (λ j. j < ncols) a below));
        of_domain = All-from_recursion (λ (e : ℕ × Value). IsValueOf d e.1) _
            (of-map_on (IsValueOf d) made (λ j. pushed_is u (column_of j a) g (of-column (IsValueOf d) j a (recursion_from_All _ a h.of_domain))) (columns_of a));
      }

  pub pushed_whole : (by : Bool) (wanted : ℕ → Bool) (e : Domain) (size : ℕ) (u : Vector) (a : Matrix) (v : VectorEntries) (k : MatrixEntries) (made : VectorEntries) → IsVector u → IsMatrix a → u.domain ≡ d
      → a.domain ≡ d → e ≡ d → size ≡ a.ncols → v ≡ u.entries → k ≡ a.entries → IsMade by wanted (pushed_of m f v k) made → IsVector (record { domain = e; size = size; entries = made })
  pushed_whole by wanted e size u a v k made g h ud ad ed z r p q =
      let total : pushed_of m f v k ≡ pushed_of m f u.entries a.entries = ap (λ (x : MatrixEntries). pushed_of m f v x) p ∙ ap (λ (x : VectorEntries). pushed_of m f x a.entries) r in
      whole e d size a.ncols made made h.ncols z ed refl
      (made_entries a.ncols d by wanted (pushed_of m f u.entries a.entries) made (made-same by wanted (pushed_of m f v k) (pushed_of m f u.entries a.entries) made total q)
      (pushed_makes_entries a.nrows a.ncols u.entries a.entries (recursion_from_All _ u.entries (subst (λ x. All (λ e. IsValueOf x e.1) u.entries) ud g.of_domain)) (matrix_entries a d h ad)))
