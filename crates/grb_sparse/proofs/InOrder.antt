-- Tuples in rising order of their places, combined one after the other.
use Rattle.std.proofs.Common.{◌≡◌, ℕ, ◌+◌, ◌-◌, ◌<◌, ◌≤◌, false, [], ◌∷◌, ◌++◌, IsTrue, length, get_or, take, refl, sym, ap, subst, ◌∙◌, arith}
use Rattle.std.specs.List.{All, AllByRecursion}
use Rattle.std.specs.List.Sorted.{IsSortedByKey, IsStableByKey}
use Rattle.std.specs.declared.cmp.Ordering.TheVariants.{Equal}
use Rattle.std.specs.Ordering.{nat_cmp, is_lt, is_gt}
use Rattle.std.specs.Cmp.{nat_cmp_total}
use Rattle.std.specs.FinMap.{find, put, is_sorted, nat_cmp-IsAntisymmetric}
use Rattle.std.specs.FinMap.Entries.{is_sorted-put}
use Rattle.std.proofs.lemmas.Bool.Decides.{nat_tests}
use Rattle.std.proofs.lemmas.List.{take_more, take_all}
use Rattle.std.proofs.lemmas.List.Elements.{All-nil, All-more, All-weaker, recursion_from_All}
use lib.Dec.{T}
use Rattle.grb_core.specs.declared.domain.Domain.{Domain}
use Rattle.grb_core.specs.declared.domain.Domain.TheVariants as domain
use Rattle.grb_core.specs.declared.value.Value.{Value}
use Rattle.grb_core.specs.declared.value.Value.TheVariants as value
use Rattle.grb_core.specs.declared.monoid.Monoid.{Monoid}
use Rattle.grb_core.specs.Value.{value_domain, IsValueOf}
use Rattle.grb_core.specs.Monoid.{monoid_domain}
use Rattle.grb_core.specs.Fold.{fold_of_some}
use Rattle.grb_core.specs.Entries.{values_at, built_from, VectorEntries}
use Rattle.grb_sparse.specs.Build.{joined}
use Rattle.grb_lists.proofs.Places.{holds, passes}
use Rattle.grb_lists.proofs.Ends.{all_lower}
use Rattle.grb_sparse.proofs.Inside.{All-put_values}
use Rattle.grb_sparse.proofs.Building.{added_at_end, found_after, after_next, joined-of, found-built_from, is_sorted-built_from, built_from-unique, values_at-stable}

pub domain_is : (d : Domain) (v : Value) → IsValueOf d v → value_domain v ≡ d
domain_is domain.Bool (value.Bool b) h = refl
domain_is domain.Bool (value.Uint64 n) h = absurd h
domain_is domain.Uint64 (value.Bool b) h = absurd h
domain_is domain.Uint64 (value.Uint64 n) h = refl

pub ties : (a k : ℕ) → a ≡ k → nat_cmp a k ≡ Equal
ties a k e = grind (arith, nat_tests)

upto_of : (a k : ℕ) → is_gt (nat_cmp a k) ≡ false → a ≤ k
upto_of a k h = grind (arith, nat_tests)

-- no place of `es` is above k
abbrev pub Upto : ℕ → VectorEntries → Type 0
Upto k es = All (λ e. is_gt (nat_cmp e.0 k) ≡ false) es

-- the last place of `es`, if there is one, is not k
abbrev pub EndsElsewhere : ℕ → VectorEntries → Type 0
EndsElsewhere k es = (d : ℕ × Value) → 0 < length es → (get_or es (length es - 1) d).0 ≡ k → ⊥

last_is : (es : VectorEntries) (e d : ℕ × Value) → (get_or (e ∷ es) (length es) d).0 ≡ (get_or (e ∷ es) (length (e ∷ es) - 1) d).0
last_is es e d = let n : length es ≡ length (e ∷ es) - 1 = omega arith in ap (λ k. (get_or (e ∷ es) k d).0) n

pub all_below : (k : ℕ) (es : VectorEntries) → T (is_sorted nat_cmp es) → Upto k es → EndsElsewhere k es → AllByRecursion (λ e. e.0 < k) es
all_below k [] h up apart = tt
all_below k (e ∷ es) h up apart =
    all_lower k (e ∷ es) (length es) e h
    (recursion_from_All (λ x. x.0 ≤ k) (e ∷ es) (All-weaker (λ x. is_gt (nat_cmp x.0 k) ≡ false) (λ x. x.0 ≤ k) (λ x g. upto_of x.0 k g) (e ∷ es) up))
    (omega arith) (λ t. apart e (omega arith) (sym (last_is es e e) ∙ t))

-- an entry whose place is another than the last goes to the end
pub added_new : (m : Monoid) (k : ℕ) (v : Value) (es : VectorEntries) → T (is_sorted nat_cmp es) → Upto k es → EndsElsewhere k es → es ++ (k, v) ∷ [] ≡ put nat_cmp k (joined m (find nat_cmp k es) v) es
added_new m k v [] h up apart = refl
added_new m k v (e ∷ es) h up apart =
    added_at_end nat_cmp_total m k v (e ∷ es) (length es) e h (omega arith) (up (length es) e (omega arith))
    (λ t. apart e (omega arith) (sym (last_is es e e) ∙ nat_cmp-IsAntisymmetric (get_or (e ∷ es) (length es) e).0 k t))

-- the first `i` tuples are combined, none of them at a place above the next
pub record IsBuilt (m : Monoid) (ts : VectorEntries) (i : ℕ) (built : VectorEntries) : Type 0 where
  pub sorted : IsTrue (is_sorted nat_cmp built)
  pub found : (q : ℕ) → find nat_cmp q built ≡ fold_of_some m (values_at nat_cmp q (take i ts))
  pub rising : (d : ℕ × Value) → i < length ts → Upto (get_or ts i d).0 built
  pub built_of : All (λ e. IsValueOf (monoid_domain m) e.1) built
  pub read_of : All (λ e. IsValueOf (monoid_domain m) e.1) (take i ts)

pub built_none : (m : Monoid) (ts built : VectorEntries) → built ≡ [] → IsBuilt m ts 0 built
built_none m ts built none = subst (IsBuilt m ts 0) (sym none) (record {
  sorted = refl;
  found = λ q. refl;
  rising = λ d l. All-nil (λ e. is_gt (nat_cmp e.0 (get_or ts 0 d).0) ≡ false);
  built_of = All-nil (λ e. IsValueOf (monoid_domain m) e.1);
  read_of = All-nil (λ e. IsValueOf (monoid_domain m) e.1);
})

pub built_more : (m : Monoid) (ts : VectorEntries) (i k : ℕ) (v : Value) (built next : VectorEntries) → IsSortedByKey (λ e. e.0) nat_cmp ts → i < length ts → ((d : ℕ × Value) → get_or ts i d ≡ (k, v))
    → IsValueOf (monoid_domain m) v → next ≡ put nat_cmp k (joined m (find nat_cmp k built) v) built → IsBuilt m ts i built → IsBuilt m ts (i + 1) next
built_more m ts i k v built next order inside here is added held =
    let e : ℕ × Value = (k, v) in
    let w = joined m (find nat_cmp k built) v in
    let more : take (i + 1) ts ≡ take i ts ++ e ∷ [] = take_more ts i e inside ∙ ap (λ x. take i ts ++ x ∷ []) (here e) in
    subst (IsBuilt m ts (i + 1)) (sym added) (record {
      sorted = passes _ (is_sorted-put nat_cmp nat_cmp_total k w built (holds held.sorted));
      found = λ q. found_after nat_cmp_total m k v built (take i ts) held.found held.read_of is q ∙ ap (λ es. fold_of_some m (values_at nat_cmp q es)) (sym more);
      rising = λ d left.
          let up : is_lt (nat_cmp (get_or ts (i + 1) d).0 k) ≡ false = subst (λ (x : ℕ × Value). is_lt (nat_cmp (get_or ts (i + 1) d).0 x.0) ≡ false) (here d) (order i d (omega arith) left) in
          let below : Upto k built = subst (λ (x : ℕ × Value). Upto x.0 built) (here e) (held.rising e inside) in
          after_next nat_cmp_total k (get_or ts (i + 1) d).0 w built up below;
      built_of = All-put_values nat_cmp (IsValueOf (monoid_domain m)) k w built (joined-of nat_cmp_total m k v built (recursion_from_All (λ x. IsValueOf (monoid_domain m) x.1) built held.built_of) is) held.built_of;
      read_of = All-more (λ (x : ℕ × Value). IsValueOf (monoid_domain m) x.1) ts i e inside held.read_of (subst (λ (x : ℕ × Value). IsValueOf (monoid_domain m) x.1) (sym (here e)) is);
    })

pub built_all : (m : Monoid) (ts : VectorEntries) (i : ℕ) (built : VectorEntries) → length ts ≤ i → IsBuilt m ts i built → built ≡ built_from nat_cmp m ts
built_all m ts i built all held =
    built_from-unique nat_cmp_total nat_cmp-IsAntisymmetric m ts built (holds held.sorted) (λ q. held.found q ∙ ap (λ es. fold_of_some m (values_at nat_cmp q es)) (take_all i ts all))

-- a built map is in order
pub ordered_built : (m : Monoid) (ts built : VectorEntries) → built ≡ built_from nat_cmp m ts → IsTrue (is_sorted nat_cmp built)
ordered_built m ts built is = subst (λ es. IsTrue (is_sorted nat_cmp es)) (sym is) (passes _ (is_sorted-built_from nat_cmp_total m ts))

-- and the same after a stable sort of the tuples
pub built_from-stable : (m : Monoid) (xs ys : VectorEntries) → IsStableByKey (λ e. e.0) nat_cmp xs ys → built_from nat_cmp m ys ≡ built_from nat_cmp m xs
built_from-stable m xs ys stable =
    built_from-unique nat_cmp_total nat_cmp-IsAntisymmetric m xs (built_from nat_cmp m ys) (is_sorted-built_from nat_cmp_total m ys)
    (λ q. found-built_from nat_cmp_total nat_cmp-IsAntisymmetric m ys q ∙ ap (fold_of_some m) (values_at-stable nat_cmp_total xs ys stable q))
