-- A product with an identity matrix.
use Rattle.std.proofs.Common.{◌≡◌, ◌<◌, ◌≤◌, ℕ, zero, suc, ◌+◌, Bool, true, false, cond, [], ◌∷◌, refl, sym, ap, subst, ◌∙◌, arith}
use Rattle.std.specs.Prelude.{◌&&◌, Option, Some, None}
use Rattle.std.specs.List.{AllByRecursion}
use Rattle.std.specs.declared.cmp.Ordering.TheVariants.{Less, Equal, Greater}
use Rattle.std.specs.Ordering.{nat_cmp, is_eq, is_lt, ordering_then}
use Rattle.std.specs.Cmp.{nat_cmp_is}
use Rattle.std.specs.FinMap.{find, is_sorted, nat_cmp-IsAntisymmetric}
use Rattle.std.specs.FinMap.Entries.{below_all}
use Rattle.std.proofs.lemmas.List.Elements.{All-from_recursion, recursion_from_All}
use lib.Dec.{T}
use Rattle.grb_core.specs.declared.value.Value.{Value}
use Rattle.grb_core.specs.Value.{IsValueOf}
use Rattle.grb_core.specs.Operator.{op_domain}
use Rattle.grb_core.specs.Monoid.{monoid_domain}
use Rattle.grb_core.specs.Semiring.{SemiringParts}
use Rattle.grb_core.specs.Entries.{Cell, cell_cmp, MatrixEntries}
use Rattle.grb_core.specs.Results.{mxm_of}
use Rattle.grb_core.specs.ResultLaws.{IsCellBelow, AreMatrixEntries}
use Rattle.grb_core.proofs.MonoidLaws.{monoid_laws}
use Rattle.grb_core.proofs.Maps.{same_entries_at, cell_cmp_total, cell_cmp-IsAntisymmetric}
use Rattle.grb_core.proofs.Made.{of-find}
use Rattle.grb_ewise.proofs.RowEntries.{passes, holds}
use Rattle.grb_mxm.proofs.ProductRows.{sorted-mxm}
use Rattle.grb_laws.specs.Laws.{IsOne, diagonal_from, identity_matrix, IdentityChangesNothing, IdentityIsWhole, MonoidsHaveOnes}
use Rattle.grb_laws.proofs.Sums.{Is, times, times_none, plus_nothing}
use Rattle.grb_laws.proofs.Lookups.{product_at, find-product}

pub ones : MonoidsHaveOnes
ones m = let laws = monoid_laws m in
    record {
      of_domain = laws.identity_is;
      from_left = λ v is. laws.neutral v is;
      from_right = λ v is. laws.commutative v _ is laws.identity_is ∙ laws.neutral v is;
    }

and : (a b : Bool) → T a → T b → T (a && b)
and true b p q = q
and false b p q = absurd p

module _ (v : Value) where
  -- what a diagonal stores, at its own cells and at others
  on_diagonal : (n first p i : ℕ) → i ≡ first + p → p < n → find cell_cmp (i, i) (diagonal_from v n first) ≡ Some v
  on_diagonal zero first p i e l = absurd (omega arith)
  on_diagonal (suc n) first zero i e l =
      ap (λ r. cond (is_eq (ordering_then r r)) (Some v) (find cell_cmp (i, i) (diagonal_from v n (first + 1)))) (sym (nat_cmp_is i first Equal (omega arith)))
  on_diagonal (suc n) first (suc p) i e l =
      ap (λ r. cond (is_eq (ordering_then r r)) (Some v) (find cell_cmp (i, i) (diagonal_from v n (first + 1)))) (sym (nat_cmp_is i first Greater (omega arith)))
      ∙ on_diagonal n (first + 1) p i (omega arith) (omega arith)

  off_diagonal : (n first : ℕ) (q : Cell) → (q.0 ≡ q.1 → ⊥) → find cell_cmp q (diagonal_from v n first) ≡ None
  off_diagonal zero first q apart = refl
  off_diagonal (suc n) first q apart =
      let none = off_diagonal n (first + 1) q apart in
      elim (nat_cmp q.0 first) as (λ r. nat_cmp q.0 first ≡ r → cond (is_eq (ordering_then r (nat_cmp q.1 first))) (Some v) (find cell_cmp q (diagonal_from v n (first + 1))) ≡ None) [
        | Less ↦ λ t. none
        | Equal ↦ λ t. elim (nat_cmp q.1 first) as (λ r. nat_cmp q.1 first ≡ r → cond (is_eq r) (Some v) (find cell_cmp q (diagonal_from v n (first + 1))) ≡ None) [
          | Less ↦ λ u. none
          | Equal ↦ λ u. absurd (apart (nat_cmp-IsAntisymmetric q.0 first t ∙ sym (nat_cmp-IsAntisymmetric q.1 first u)))
          | Greater ↦ λ u. none
        ] refl
        | Greater ↦ λ t. none
      ] refl

  diagonal_all : (P : Value → Type 0) → P v → (n first : ℕ) → AllByRecursion (λ e. P e.1) (diagonal_from v n first)
  diagonal_all P is zero first = tt
  diagonal_all P is (suc n) first = (is, diagonal_all P is n (first + 1))

  below_diagonal : (n first k : ℕ) → k < first → T (below_all cell_cmp (k, k) (diagonal_from v n first))
  below_diagonal zero first k h = tt
  below_diagonal (suc n) first k h = and _ _ (subst (λ r. T (is_lt (ordering_then r r))) (nat_cmp_is k first Less h) tt) (below_diagonal n (first + 1) k (omega arith))

  sorted_diagonal : (n first : ℕ) → T (is_sorted cell_cmp (diagonal_from v n first))
  sorted_diagonal zero first = tt
  sorted_diagonal (suc n) first = and _ _ (below_diagonal n (first + 1) first (omega arith)) (sorted_diagonal n (first + 1))

  within_diagonal : (n first size : ℕ) → first + n ≤ size → AllByRecursion (λ e. IsCellBelow size size e.0) (diagonal_from v n first)
  within_diagonal zero first size h = tt
  within_diagonal (suc n) first size h = ((omega arith, omega arith), within_diagonal n (first + 1) size (omega arith))

pub identity_is_whole : IdentityIsWhole
identity_is_whole size op one is_one =
    record {
      ordered = passes _ (sorted_diagonal one size 0);
      within = All-from_recursion (λ (e : Cell × Value). IsCellBelow size size e.0) (identity_matrix one size) (within_diagonal one size 0 size (omega arith));
      of_domain = All-from_recursion (λ (e : Cell × Value). IsValueOf (op_domain op) e.1) (identity_matrix one size) (diagonal_all one (IsValueOf (op_domain op)) is_one.of_domain size 0);
    }

within_find : (P : Cell → Type 0) (q : Cell) (a : MatrixEntries) (v : Value) → AllByRecursion (λ e. P e.0) a → find cell_cmp q a ≡ Some v → P q
within_find P q [] v h = λ (n : None ≡ Some v). absurd (none n)
  where
    none : ◌≡◌ {A = Option Value} None (Some v) → ⊥
    none n = cc
within_find P q (e ∷ a) v h =
    elim (cell_cmp q e.0) as (λ r. cell_cmp q e.0 ≡ r → cond (is_eq r) (Some e.1) (find cell_cmp q a) ≡ Some v → P q) [
      | Less ↦ λ t. within_find P q a v h.1
      | Equal ↦ λ t s. subst P (sym (cell_cmp-IsAntisymmetric q e.0 t)) h.0
      | Greater ↦ λ t. within_find P q a v h.1
    ] refl

-- a place alone
apart_from : (v : Value) (l k : ℕ) → find nat_cmp k ((l, v) ∷ []) ≡ None → k ≡ l → ⊥
apart_from v l k h e = stored (sym (ap (λ r. cond (is_eq r) (Some v) None) (sym (nat_cmp_is k l Equal e))) ∙ h)
  where
    stored : Some v ≡ None → ⊥
    stored n = cc

module _ (nrows ncols : ℕ) (s : SemiringParts) (one : Value) (a : MatrixEntries) (one_domain : monoid_domain s.monoid ≡ op_domain s.op) (is_one : IsOne s.op one)
    (are : AreMatrixEntries nrows ncols (op_domain s.op) a) where
  within_a : (q : Cell) (v : Value) → find cell_cmp q a ≡ Some v → IsCellBelow nrows ncols q
  within_a q v = within_find (IsCellBelow nrows ncols) q a v (recursion_from_All _ a are.within)

  of_a : (q : Cell) → Is s (find cell_cmp q a)
  of_a q = of-find cell_cmp (IsValueOf (op_domain s.op)) q a (recursion_from_All _ a are.of_domain)

  of_identity : (n : ℕ) (q : Cell) → Is s (find cell_cmp q (identity_matrix one n))
  of_identity n q = of-find cell_cmp (IsValueOf (op_domain s.op)) q (identity_matrix one n) (diagonal_all one (IsValueOf (op_domain s.op)) is_one.of_domain n 0)

  from_left : (i l : ℕ) → find cell_cmp (i, l) (mxm_of s (identity_matrix one nrows) a) ≡ find cell_cmp (i, l) a
  from_left i l =
      find-product s one_domain (identity_matrix one nrows) a (of_identity nrows) of_a i l ((i, one) ∷ []) enough
      ∙ plus_nothing s one_domain (product_at s one_domain (identity_matrix one nrows) a (of_identity nrows) of_a i l i)
      ∙ there (find cell_cmp (i, l) a) refl (of_a (i, l))
    where
      enough : (k : ℕ) → find nat_cmp k ((i, one) ∷ []) ≡ None → times s (find cell_cmp (i, k) (identity_matrix one nrows)) (find cell_cmp (k, l) a) ≡ None
      enough k h = ap (λ w. times s w (find cell_cmp (k, l) a)) (off_diagonal one nrows 0 (i, k) (λ e. apart_from one i k h (sym e)))

      there : (w : Option Value) → find cell_cmp (i, l) a ≡ w → Is s w → times s (find cell_cmp (i, i) (identity_matrix one nrows)) w ≡ w
      there None t is = times_none s (find cell_cmp (i, i) (identity_matrix one nrows))
      there (Some v) t is =
          ap (λ w. times s w (Some v)) (on_diagonal one nrows 0 i i (omega arith) (within_a (i, l) v t).0) ∙ ap Some (is_one.from_left v is)

  from_right : (i l : ℕ) → find cell_cmp (i, l) (mxm_of s a (identity_matrix one ncols)) ≡ find cell_cmp (i, l) a
  from_right i l =
      find-product s one_domain a (identity_matrix one ncols) of_a (of_identity ncols) i l ((l, one) ∷ []) enough
      ∙ plus_nothing s one_domain (product_at s one_domain a (identity_matrix one ncols) of_a (of_identity ncols) i l l)
      ∙ there (find cell_cmp (i, l) a) refl (of_a (i, l))
    where
      enough : (k : ℕ) → find nat_cmp k ((l, one) ∷ []) ≡ None → times s (find cell_cmp (i, k) a) (find cell_cmp (k, l) (identity_matrix one ncols)) ≡ None
      enough k h = ap (times s (find cell_cmp (i, k) a)) (off_diagonal one ncols 0 (k, l) (apart_from one l k h)) ∙ times_none s (find cell_cmp (i, k) a)

      there : (w : Option Value) → find cell_cmp (i, l) a ≡ w → Is s w → times s w (find cell_cmp (l, l) (identity_matrix one ncols)) ≡ w
      there None t is = refl
      there (Some v) t is =
          ap (times s (Some v)) (on_diagonal one ncols 0 l l (omega arith) (within_a (i, l) v t).1) ∙ ap Some (is_one.from_right v is)

pub identity_changes_nothing : IdentityChangesNothing
identity_changes_nothing nrows ncols s one a one_domain is_one are =
    let ordered = holds _ are.ordered in (
      same_entries_at cell_cmp cell_cmp_total cell_cmp-IsAntisymmetric (mxm_of s (identity_matrix one nrows) a) a (sorted-mxm s (identity_matrix one nrows) a) ordered
          (λ q. from_left nrows ncols s one a one_domain is_one are q.0 q.1),
      same_entries_at cell_cmp cell_cmp_total cell_cmp-IsAntisymmetric (mxm_of s a (identity_matrix one ncols)) a (sorted-mxm s a (identity_matrix one ncols)) ordered
          (λ q. from_right nrows ncols s one a one_domain is_one are q.0 q.1),
    )
