-- Products with their columns: one more in a list, one more in a run, and another order.
use Rattle.std.proofs.Common.{◌≡◌, ℕ, zero, suc, ◌+◌, ◌<◌, ◌≤◌, false, List, [], ◌∷◌, ◌++◌, length, take, set, get_or, refl, sym, ap, subst, ◌∙◌, arith}
use Rattle.std.specs.Prelude.{◌≢◌, IsTrue}
use Rattle.std.specs.List.{All}
use Rattle.std.specs.List.Sorted.{IsPermutation}
use Rattle.std.specs.Ordering.{nat_cmp, is_gt}
use Rattle.std.specs.declared.cmp.Ordering.TheVariants.{Equal}
use Rattle.std.specs.Cmp.{nat_cmp_total, nat_cmp_is}
use Rattle.std.specs.FinMap.{find, put, is_sorted, nat_cmp-IsAntisymmetric}
use Rattle.std.proofs.lemmas.List.{take_more}
use Rattle.std.proofs.lemmas.List.Elements.{All-map, All-take}
use Rattle.std.proofs.lemmas.List.Sorted.{IsPermutation-map}
use Rattle.grb_core.specs.declared.value.Value.{Value}
use Rattle.grb_core.specs.declared.monoid.Monoid.{Monoid}
use Rattle.grb_core.specs.declared.domain.Domain.{Domain}
use Rattle.grb_core.specs.Value.{IsValueOf}
use Rattle.grb_core.specs.Operator.{value_of_op}
use Rattle.grb_core.specs.Monoid.{monoid_op, monoid_domain}
use Rattle.grb_core.specs.Entries.{VectorEntries, built_from}
use Rattle.grb_core.proofs.Builds.{builds_in_any_order}
use Rattle.grb_kernels.specs.Typed.{first_entries}
use Rattle.grb_kernels.proofs.Lists.{first-set_more}
use Rattle.grb_lists.proofs.Places.{holds}
use Rattle.grb_sparse.specs.Build.{joined}
use Rattle.grb_sparse.proofs.Building.{added_at_end, added_at_last}
use Rattle.grb_sums.specs.ColumnSums.{as_entries}

module _ {V : Type 0} (tv : V → Value) where
  pub as_entries-append : (ps qs : List (ℕ × V)) → as_entries tv (ps ++ qs) ≡ as_entries tv ps ++ as_entries tv qs
  as_entries-append [] qs = refl
  as_entries-append (p ∷ ps) qs = ap (λ (m : VectorEntries). (p.0, tv p.1) ∷ m) (as_entries-append ps qs)

  -- one more product is read
  pub as_entries-more : (ps : List (ℕ × V)) (i : ℕ) (p : ℕ × V) → i < length ps → p ≡ get_or ps i p
      → as_entries tv (take (i + 1) ps) ≡ as_entries tv (take i ps) ++ (p.0, tv p.1) ∷ []
  as_entries-more ps i p inside is =
      ap (as_entries tv) (take_more ps i p inside ∙ ap (λ (x : ℕ × V). take i ps ++ x ∷ []) (sym is))
      ∙ as_entries-append (take i ps) (p ∷ [])

  module _ (m : Monoid) (d : Domain) (same : monoid_domain m ≡ d) (ps : List (ℕ × V)) (are : All (λ p. IsValueOf d (tv p.1)) ps) where
    of_monoid : All (λ p. IsValueOf (monoid_domain m) (tv p.1)) ps
    of_monoid = subst (λ x. All (λ (p : ℕ × V). IsValueOf x (tv p.1)) ps) (sym same) are

    -- the first products are of the monoid's domain
    pub are_taken : (i : ℕ) → All (λ e. IsValueOf (monoid_domain m) e.1) (as_entries tv (take i ps))
    are_taken i =
        All-map (λ (e : ℕ × Value). IsValueOf (monoid_domain m) e.1) (λ (p : ℕ × V). (p.0, tv p.1)) (take i ps)
        (All-take (λ (p : ℕ × V). IsValueOf (monoid_domain m) (tv p.1)) i ps of_monoid)

    -- the products in another order have the same folds
    pub built-moved : (qs : List (ℕ × V)) → IsPermutation ps qs → built_from nat_cmp m (as_entries tv qs) ≡ built_from nat_cmp m (as_entries tv ps)
    built-moved qs moved =
        sym (builds_in_any_order nat_cmp nat_cmp_total nat_cmp-IsAntisymmetric m (as_entries tv ps) (as_entries tv qs)
        (All-map (λ (e : ℕ × Value). IsValueOf (monoid_domain m) e.1) (λ (p : ℕ × V). (p.0, tv p.1)) ps of_monoid)
        (IsPermutation-map (λ (p : ℕ × V). (p.0, tv p.1)) ps qs moved))

  first-length : (k : ℕ) (ks : List ℕ) (vs : List V) → k ≤ length ks → length ks ≡ length vs → length (first_entries tv k ks vs) ≡ k
  first-length zero ks vs l e = refl
  first-length (suc k) [] vs l e = absurd (omega arith)
  first-length (suc k) (j ∷ ks) [] l e = absurd (omega arith)
  first-length (suc k) (j ∷ ks) (v ∷ vs) l e = ap suc (first-length k ks vs (omega arith) (omega arith))

  first-at : (k n : ℕ) (ks : List ℕ) (vs : List V) (d : ℕ × Value) (x : V) → n < k → k ≤ length ks → length ks ≡ length vs → x ≡ get_or vs n x
      → get_or (first_entries tv k ks vs) n d ≡ (get_or ks n 0, tv x)
  first-at zero n ks vs d x b l e is = absurd (omega arith)
  first-at (suc k) n [] vs d x b l e is = absurd (omega arith)
  first-at (suc k) n (j ∷ ks) [] d x b l e is = absurd (omega arith)
  first-at (suc k) zero (j ∷ ks) (v ∷ vs) d x b l e is = ap (λ (y : V). (j, tv y)) (sym is)
  first-at (suc k) (suc n) (j ∷ ks) (v ∷ vs) d x b l e is = first-at k n ks vs d x (omega arith) (omega arith) (omega arith) is

  first-column : (k n : ℕ) (ks : List ℕ) (vs : List V) (d : ℕ × Value) → n < k → k ≤ length ks → length ks ≡ length vs → (get_or (first_entries tv k ks vs) n d).0 ≡ get_or ks n 0
  first-column zero n ks vs d b l e = absurd (omega arith)
  first-column (suc k) n [] vs d b l e = absurd (omega arith)
  first-column (suc k) n (j ∷ ks) [] d b l e = absurd (omega arith)
  first-column (suc k) zero (j ∷ ks) (v ∷ vs) d b l e = refl
  first-column (suc k) (suc n) (j ∷ ks) (v ∷ vs) d b l e = first-column k n ks vs d (omega arith) (omega arith) (omega arith)

  first-set_value : (k n : ℕ) (ks : List ℕ) (vs : List V) (w : V) → n < k → k ≤ length ks → length ks ≡ length vs
      → first_entries tv k ks (set vs n w) ≡ set (first_entries tv k ks vs) n (get_or ks n 0, tv w)
  first-set_value zero n ks vs w b l e = absurd (omega arith)
  first-set_value (suc k) n [] vs w b l e = absurd (omega arith)
  first-set_value (suc k) n (j ∷ ks) [] w b l e = absurd (omega arith)
  first-set_value (suc k) zero (j ∷ ks) (v ∷ vs) w b l e = refl
  first-set_value (suc k) (suc n) (j ∷ ks) (v ∷ vs) w b l e = ap (λ (m : VectorEntries). (j, tv v) ∷ m) (first-set_value k n ks vs w (omega arith) (omega arith) (omega arith))

  module _ (m : Monoid) (ks : List ℕ) (vs : List V) (k j : ℕ) (same : length ks ≡ length vs) (rise : IsTrue (is_sorted nat_cmp (first_entries tv k ks vs))) where
    -- one more product of the last column
    pub run_grows : (n : ℕ) (old new : V) (v : Value) → n + 1 ≡ k → k ≤ length ks → old ≡ get_or vs n old → get_or ks n 0 ≡ j → tv new ≡ value_of_op (monoid_op m) (tv old) v
        → first_entries tv k ks (set vs n new) ≡ put nat_cmp j (joined m (find nat_cmp j (first_entries tv k ks vs)) v) (first_entries tv k ks vs)
    run_grows n old new v next room is here made =
        let es = first_entries tv k ks vs in
        let d : ℕ × Value = (j, tv old) in
        let long : length es ≡ k = first-length k ks vs room same in
        let at : get_or es n d ≡ (get_or ks n 0, tv old) = first-at k n ks vs d old (omega arith) room same is in
        let tie : nat_cmp (get_or es n d).0 j ≡ Equal = sym (nat_cmp_is (get_or es n d).0 j Equal (ap (λ (e : ℕ × Value). e.0) at ∙ here)) in
        first-set_value k n ks vs new (omega arith) room same
        ∙ ap (λ (w : Value). set es n (get_or ks n 0, w)) made
        ∙ ap (λ (e : ℕ × Value). set es n (e.0, value_of_op (monoid_op m) e.1 v)) (sym at)
        ∙ added_at_last nat_cmp_total m j v es n d (holds rise) (omega (arith, long, next)) tie

    module _ (x : V) (room : k < length ks) (up : All (λ e. is_gt (nat_cmp e.0 j) ≡ false) (first_entries tv k ks vs)) (apart : (n : ℕ) → n + 1 ≡ k → get_or ks n 0 ≢ j) where
      abbrev es : VectorEntries
      es = first_entries tv k ks vs

      abbrev Starts : Type 0
      Starts = es ++ (j, tv x) ∷ [] ≡ put nat_cmp j (joined m (find nat_cmp j es) (tv x)) es

      nothing_yet : k ≡ zero → Starts
      nothing_yet e = rw e refl

      behind : (n : ℕ) → k ≡ suc n → Starts
      behind n e =
          let d : ℕ × Value = (j, tv x) in
          let long : length es ≡ k = first-length k ks vs (omega arith) same in
          let last : (get_or es n d).0 ≡ get_or ks n 0 = first-column k n ks vs d (omega (arith, e)) (omega arith) same in
          added_at_end nat_cmp_total m j (tv x) es n d (holds rise) (omega (arith, long, e)) (up n d (omega (arith, long, e)))
          (λ t. apart n (omega (arith, e)) (sym last ∙ nat_cmp-IsAntisymmetric (get_or es n d).0 j t))

      -- the first product of a column that is higher than the last
      pub run_starts : first_entries tv (k + 1) (set ks k j) (set vs k x) ≡ put nat_cmp j (joined m (find nat_cmp j (first_entries tv k ks vs)) (tv x)) (first_entries tv k ks vs)
      run_starts = first-set_more tv ks vs k j x room same ∙ elim k as (λ n. k ≡ n → Starts) [ zero ↦ λ e. nothing_yet e | suc n ↦ λ e. behind n e ] refl
