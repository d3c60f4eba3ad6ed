-- The changes over entries: no two of one cell, each of the domain, and the places of the cells that have one.
use Rattle.std.proofs.Common.{Result, Ok, Err, ◌≡◌, ◌≢◌, ℕ, zero, suc, ◌<◌, Bool, true, false, cond, nat_eq, List, [], ◌∷◌, length, get_or, set, refl, sym, ap, subst, ◌∙◌, arith}
use Rattle.std.specs.Prelude.{◌||◌, Option, Some, None, All, IfSome, IfNone, IfOk, IsOk, is_some, is_none}
use Rattle.std.specs.List.{AllByRecursion, IsDistinct}
use Rattle.std.specs.Map.{keys_of}
use Rattle.std.specs.Option.{option_or}
use Rattle.std.specs.Ordering.{nat_cmp}
use Rattle.std.specs.Cmp.{nat_cmp_total}
use Rattle.std.specs.FinMap.{find, is_sorted}
use Rattle.std.proofs.lemmas.Bool.Decides.{nat_tests}
use Rattle.std.proofs.lemmas.List.{length-set}
use Rattle.std.proofs.lemmas.List.Folds.{list_any-append}
use Rattle.std.proofs.lemmas.List.Kept.{AllPairs-cons}
use Rattle.std.proofs.lemmas.Map.Keys.{IsDistinct-head, IsDistinct-tail}
use lib.Dec.{T}
use Rattle.grb_core.specs.declared.value.Value.{Value}
use Rattle.grb_core.specs.declared.value.Value.TheVariants as value
use Rattle.grb_core.specs.declared.domain.Domain.{Domain}
use Rattle.grb_core.specs.Entries.{VectorEntries}
use Rattle.grb_rows.specs.Pending.{Change, last_at, IsChangeOf}
use Rattle.grb_rows.specs.Layers.{is_listed, IsPlaced, AreApart, placed_after}
use Rattle.grb_lists.proofs.Places.{find-at}
use Rattle.grb_lists.proofs.Ends.{tie}
use Rattle.grb_lists.proofs.FlatLists.{rises}
use Rattle.grb_rows.proofs.Latest.{none_last}

-- ---- changes of cells that differ
itself : (k : ℕ) → nat_eq k k ≡ true
itself k = grind (arith, nat_tests)

differ : (a b : ℕ) → nat_eq a b ≡ false → a ≢ b
differ a b off e = cc (sym off ∙ ap (nat_eq a) (sym e) ∙ itself a)

other_keys : (k : ℕ) (cs : List Change) → AllByRecursion (λ y. nat_eq k y ≡ false) (keys_of cs) → All (λ (d : Change). k ≢ d.0) cs
other_keys k [] h j d l = absurd (omega arith)
other_keys k (c ∷ cs) h zero d l = differ k c.0 h.0
other_keys k (c ∷ cs) h (suc j) d l = other_keys k cs h.1 j d (omega arith)

pub apart-distinct : (cs : List Change) → IsDistinct nat_eq (keys_of cs) → AreApart cs
apart-distinct [] h = λ i j d l n. absurd (omega arith)
apart-distinct (c ∷ cs) h =
    AllPairs-cons (λ (e f : Change). e.0 ≢ f.0) c cs (other_keys c.0 cs (IsDistinct-head nat_eq c.0 (keys_of cs) h)) (apart-distinct cs (IsDistinct-tail nat_eq c.0 (keys_of cs) h))

-- each is the last of its cell
last_at-at : (cs : List Change) (j : ℕ) (d : Change) → IsDistinct nat_eq (keys_of cs) → j < length cs → last_at (get_or cs j d).0 cs ≡ Some (get_or cs j d).1
last_at-at [] j d h l = absurd (omega arith)
last_at-at (c ∷ cs) zero d h l =
    ap (λ w. option_or w (cond (nat_eq c.0 c.0) (Some c.1) None)) (none_last c.0 cs (IsDistinct-head nat_eq c.0 (keys_of cs) h))
    ∙ ap (λ b. cond b (Some c.1) None) (itself c.0)
last_at-at (c ∷ cs) (suc j) d h l =
    ap (λ w. option_or w (cond (nat_eq (get_or cs j d).0 c.0) (Some c.1) None)) (last_at-at cs j d (IsDistinct-tail nat_eq c.0 (keys_of cs) h) (omega arith))

pub all_last : (domain : Domain) (cs : List Change) → IsDistinct nat_eq (keys_of cs) → ((k : ℕ) → IfSome (last_at k cs) (λ c. IsChangeOf domain (k, c))) → All (IsChangeOf domain) cs
all_last domain cs h inside = λ j d l.
    let e = get_or cs j d in
    subst (λ w. IfSome w (λ c. IsChangeOf domain (e.0, c))) (last_at-at cs j d h l) (inside e.0)

-- ---- places of entries
abbrev pub is_at : Option ℕ → ℕ → Bool
is_at None q = false
is_at (Some at) q = nat_eq q at

-- where a cell stands, if at a place
abbrev pub StandsAt : VectorEntries → ℕ → Option ℕ → Type 0
StandsAt m k place = (q : ℕ) (d : ℕ × Value) → q < length m → nat_eq (get_or m q d).0 k ≡ is_at place q

same : (a b : ℕ) → nat_eq a b ≡ true → a ≡ b
same a b e = grind (arith, nat_tests)

tests : (q r n m : ℕ) → (q < r → n < m) → (r < q → m < n) → (q ≡ r → n ≡ m) → nat_eq n m ≡ nat_eq q r
tests q r n m a b e = grind (arith, nat_tests)

pub stands_at : (m : VectorEntries) (k at : ℕ) → T (is_sorted nat_cmp m) → at < length m → ((d : ℕ × Value) → (get_or m at d).0 ≡ k) → StandsAt m k (Some at)
stands_at m k at s inside is q d l =
    tests q at (get_or m q d).0 k
    (λ b. subst (λ n. (get_or m q d).0 < n) (is d) (rises m d s q at b inside))
    (λ b. subst (λ n. n < (get_or m q d).0) (is d) (rises m d s at q b l))
    (λ e. ap (λ r. (get_or m r d).0) e ∙ is d)

pub stands_nowhere : (m : VectorEntries) (k : ℕ) → T (is_sorted nat_cmp m) → find nat_cmp k m ≡ None → StandsAt m k None
stands_nowhere m k s none q d l =
    elim (nat_eq (get_or m q d).0 k) as (λ b. nat_eq (get_or m q d).0 k ≡ b → b ≡ false) [
      | true ↦ λ t. absurd (nothing (get_or m q d).1 (sym none ∙ find-at nat_cmp_total k m q d s l (tie k _ (sym (same _ k t)))))
      | false ↦ λ t. refl
    ] refl
  where
    nothing : (v : Value) → ◌≡◌ {A = Option Value} None (Some v) → ⊥
    nothing v e = cc

pub stands_found : (m : VectorEntries) (k : ℕ) (place : Option ℕ) → T (is_sorted nat_cmp m)
    → IfSome place (λ at. (at < length m) × ((d : ℕ × Value) → (get_or m at d).0 ≡ k)) → IfNone place (find nat_cmp k m ≡ None) → StandsAt m k place
stands_found m k None s found absent = stands_nowhere m k s absent
stands_found m k (Some at) s found absent = stands_at m k at s found.0 found.1

pub some_found : (m : VectorEntries) (k : ℕ) (place : Option ℕ) → IfSome place (λ at. (d : ℕ × Value) → find nat_cmp k m ≡ Some (get_or m at d).1) → IfNone place (find nat_cmp k m ≡ None)
    → is_some (find nat_cmp k m) ≡ is_some place
some_found m k None stands absent = ap is_some absent
some_found m k (Some at) stands absent = ap is_some (stands (k, value.Bool true))

or_false : (b : Bool) → (b || false) ≡ b
or_false true = refl
or_false false = refl

listed_after : (w : Option (Option Value)) (place : Option ℕ) (ps : List ℕ) (q : ℕ) → is_listed (placed_after w place ps) q ≡ cond (is_some w) (is_listed ps q) (is_listed ps q || is_at place q)
listed_after None None ps q = sym (or_false (is_listed ps q))
listed_after None (Some at) ps q = list_any-append (nat_eq q) ps (at ∷ []) ∙ ap (λ b. is_listed ps q || b) (or_false (nat_eq q at))
listed_after (Some c) place ps q = refl

-- one more change
pub placed-pushed : (m : VectorEntries) (ps : List ℕ) (cs : List Change) → IsPlaced m ps cs → (k : ℕ) (place : Option ℕ) → StandsAt m k place
    → (c : Option Value) (fs : List Change) → ((q : ℕ) → last_at q fs ≡ cond (nat_eq q k) (Some c) (last_at q cs))
    → (qs : List ℕ) → qs ≡ placed_after (last_at k cs) place ps → IsPlaced m qs fs
placed-pushed m ps cs placed k place stands c fs is qs are q d l =
    let n = (get_or m q d).0 in
    ap (λ xs. is_listed xs q) are
    ∙ listed_after (last_at k cs) place ps q
    ∙ ap (λ b. cond (is_some (last_at k cs)) b (b || is_at place q)) (placed q d l)
    ∙ ap (λ b. cond (is_some (last_at k cs)) (is_some (last_at n cs)) (is_some (last_at n cs) || b)) (sym (stands q d l))
    ∙ by_test (nat_eq n k) (last_at k cs) (last_at n cs) (λ t. ap (λ x. last_at x cs) (same n k t))
    ∙ ap is_some (sym (is n))
  where
    by_test : (b : Bool) (w v : Option (Option Value)) → (b ≡ true → v ≡ w) → cond (is_some w) (is_some v) (is_some v || b) ≡ is_some (cond b (Some c) v)
    by_test true None v e = ap (λ x. is_some x || true) (e refl)
    by_test true (Some x) v e = ap is_some (e refl)
    by_test false None v e = or_false (is_some v)
    by_test false (Some x) v e = refl

-- a value written at a place
set_key : (m : VectorEntries) (at : ℕ) (v : Value) (q : ℕ) (d : ℕ × Value) → (get_or (set m at ((get_or m at d).0, v)) q d).0 ≡ (get_or m q d).0
set_key [] at v q d = refl
set_key (e ∷ m) zero v zero d = refl
set_key (e ∷ m) zero v (suc q) d = refl
set_key (e ∷ m) (suc at) v zero d = refl
set_key (e ∷ m) (suc at) v (suc q) d = set_key m at v q d

pub placed-written : (m : VectorEntries) (ps : List ℕ) (cs : List Change) → IsPlaced m ps cs → (at : ℕ) (v : Value)
    → (n : VectorEntries) → ((d : ℕ × Value) → n ≡ set m at ((get_or m at d).0, v)) → IsPlaced n ps cs
placed-written m ps cs placed at v n is q d l =
    let long : length n ≡ length m = ap length (is d) ∙ length-set m at ((get_or m at d).0, v) in
    let key = ap (λ (x : VectorEntries). (get_or x q d).0) (is d) ∙ set_key m at v q d in
    placed q d (omega (arith, long, l)) ∙ ap (λ x. is_some (last_at x cs)) (sym key)

-- the same last changes in another order
pub placed-same : (m : VectorEntries) (ps : List ℕ) (cs : List Change) → IsPlaced m ps cs → (fs : List Change) → ((q : ℕ) → last_at q fs ≡ last_at q cs) → (qs : List ℕ) → qs ≡ ps → IsPlaced m qs fs
placed-same m ps cs placed fs is qs are q d l = ap (λ xs. is_listed xs q) are ∙ placed q d l ∙ ap is_some (sym (is (get_or m q d).0))

-- what was put where a change may have been
pub first_of : {E : Type 0} (r : Result (Option (Option Value)) E) → IsOk r → (first : Bool) → IfOk r (λ old. first ≡ is_none old) → (w : Option (Option Value)) → IfOk r (λ old. old ≡ w) → first ≡ is_none w
first_of (Ok old) i first h w is = h ∙ ap is_none is
first_of (Err e) i first h w is = cc
