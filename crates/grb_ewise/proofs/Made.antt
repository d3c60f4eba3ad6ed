-- What a rule makes of two whole objects is whole: its places are among theirs, and its values are of a Rust type.
use Rattle.std.proofs.Common.{◌≡◌, ℕ, List, [], ◌∷◌, ◌<◌, sym, subst}
use Rattle.std.specs.Prelude.{IsTrue, Option, All}
use Rattle.std.specs.List.{AllByRecursion}
use Rattle.std.specs.Ordering.{nat_cmp}
use Rattle.std.specs.declared.cmp.Ordering.{Ordering}
use Rattle.std.specs.FinMap.{is_sorted}
use Rattle.std.proofs.lemmas.List.Elements.{All-from_recursion, recursion_from_All}
use Rattle.grb_core.specs.declared.domain.Domain.{Domain}
use Rattle.grb_core.specs.declared.value.Value.{Value}
use Rattle.grb_core.specs.Value.{IsValueOf}
use Rattle.grb_core.specs.Entries.{Cell, VectorEntries, MatrixEntries, cell_cmp}
use Rattle.grb_core.specs.Contents.{Vector, Matrix, IsVector, IsMatrix}
use Rattle.grb_core.specs.Written.{pointwise}
use Rattle.grb_core.proofs.Made.{all-map, within-pointwise}
use Rattle.grb_kernels.specs.Typed.{entries_of}
use Rattle.grb_lists.specs.Cells.{cell_of, decoded}
use Rattle.grb_ewise.proofs.Whole.{vector_of}
use Rattle.grb_ewise.proofs.WholeMatrix.{matrix_of}

within_both : {K : Type 0} (R : K → K → Ordering) (Within : K → Type 0) (f : Option Value → Option Value → Option Value) (a b m : List (K × Value))
    → All (λ e. Within e.0) a → All (λ e. Within e.0) b → m ≡ pointwise R f a b → All (λ e. Within e.0) m
within_both {K} R Within f a b m g h e =
    subst (λ (s : List (K × Value)). All (λ e. Within e.0) s) (sym e)
    (All-from_recursion (λ (e : K × Value). Within e.0) _ (within-pointwise R Within f a b (recursion_from_All (λ (e : K × Value). Within e.0) a g) (recursion_from_All (λ (e : K × Value). Within e.0) b h)))

module _ {V : Type 0} (value : V → Value) (d : Domain) where
  values_are : (ks : List ℕ) (vs : List V) → AllByRecursion (λ v. IsValueOf d (value v)) vs → AllByRecursion (λ e. IsValueOf d e.1) (entries_of value ks vs)
  values_are [] vs h = tt
  values_are (k ∷ ks) [] h = tt
  values_are (k ∷ ks) (v ∷ vs) h = (h.0, values_are ks vs h.1)

  -- the values of entries are those of the list
  pub entries_are : (ks : List ℕ) (vs lent : List V) → lent ≡ vs → All (λ v. IsValueOf d (value v)) lent → All (λ e. IsValueOf d e.1) (entries_of value ks vs)
  entries_are ks vs lent e h =
      All-from_recursion (λ (e : ℕ × Value). IsValueOf d e.1) _ (values_are ks vs (recursion_from_All (λ v. IsValueOf d (value v)) vs (subst (λ (s : List V). All (λ v. IsValueOf d (value v)) s) e h)))

  pub cells_are : (ks : List ℕ) (vs lent : List V) → lent ≡ vs → All (λ v. IsValueOf d (value v)) lent → All (λ e. IsValueOf d e.1) (decoded (entries_of value ks vs))
  cells_are ks vs lent e h =
      All-from_recursion (λ (e : Cell × Value). IsValueOf d e.1) _
      (all-map (λ (e : Cell × Value). IsValueOf d e.1) (λ e. (cell_of e.0, e.1)) (entries_of value ks vs) (recursion_from_All (λ (e : ℕ × Value). IsValueOf d e.1) _ (entries_are ks vs lent e h)))

module _ (f : Option Value → Option Value → Option Value) (d : Domain) where
  pub vector_made : (size : ℕ) (a b : Vector) (m : VectorEntries) → IsVector a → IsVector b → b.size ≡ a.size → size ≡ a.size → m ≡ pointwise nat_cmp f a.entries b.entries
      → IsTrue (is_sorted nat_cmp m) → All (λ e. IsValueOf d e.1) m → IsVector (vector_of d size m)
  vector_made size a b m g h same s e o v =
      subst (λ n. IsVector (vector_of d n m)) (sym s) (record {
        size = g.size;
        ordered = o;
        within = within_both nat_cmp (λ i. i < a.size) f a.entries b.entries m g.within (subst (λ n. All (λ e. e.0 < n) b.entries) same h.within) e;
        of_domain = v;
      })

  pub matrix_made : (nrows ncols : ℕ) (a b : Matrix) (m : MatrixEntries) → IsMatrix a → IsMatrix b → b.nrows ≡ a.nrows → b.ncols ≡ a.ncols → ◌≡◌ {A = ℕ × ℕ} (nrows, ncols) (a.nrows, a.ncols)
      → m ≡ pointwise cell_cmp f a.entries b.entries → IsTrue (is_sorted cell_cmp m) → All (λ e. IsValueOf d e.1) m → IsMatrix (matrix_of d nrows ncols m)
  matrix_made nrows ncols a b m g h r c s e o v =
      subst (λ (n : ℕ × ℕ). IsMatrix (matrix_of d n.0 n.1 m)) (sym s) (record {
        nrows = g.nrows;
        ncols = g.ncols;
        ordered = o;
        within = within_both cell_cmp (λ (c : Cell). (c.0 < a.nrows) × (c.1 < a.ncols)) f a.entries b.entries m g.within
            (subst (λ n. All (λ e. (e.0.0 < n) × (e.0.1 < a.ncols)) b.entries) r (subst (λ n. All (λ e. (e.0.0 < b.nrows) × (e.0.1 < n)) b.entries) c h.within)) e;
        of_domain = v;
      })
