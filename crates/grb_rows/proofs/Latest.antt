-- The last changes as a table lists them, where no two are of one index.
use Rattle.std.proofs.Common.{◌≡◌, ℕ, suc, ◌+◌, ◌<◌, ◌≤◌, true, false, not, cond, nat_eq, List, [], ◌∷◌, length, get_or, Some, None, Option, refl, sym, ap, subst, ◌∙◌, arith}
use Rattle.std.specs.Prelude.{◌&&◌, All, IfSome}
use Rattle.std.specs.List.{AllByRecursion, IsDistinct, filter}
use Rattle.std.specs.List.Sorted.{IsSortedByKey, IsStableByKey, ties}
use Rattle.std.specs.Map.{keys_of, lookup}
use Rattle.std.specs.Option.{option_or}
use Rattle.std.specs.Ordering.{nat_cmp, is_lt}
use Rattle.std.specs.FinMap.{find, is_sorted}
use Rattle.std.specs.FinMap.Entries.{below_all}
use Rattle.std.proofs.lemmas.Bool.Decides.{nat_tests}
use Rattle.std.proofs.lemmas.List.Elements.{filter_agree}
use Rattle.std.proofs.lemmas.Map.Keys.{IsDistinct-head, IsDistinct-tail}
use lib.Dec.{T}
use Rattle.grb_core.specs.declared.value.Value.{Value}
use Rattle.grb_core.specs.declared.domain.Domain.{Domain}
use Rattle.grb_rows.specs.Pending.{Change, last_at, IsChangeOf}
use Rattle.grb_lists.proofs.Ends.{find-key, lt_of, not_less}
use Rattle.grb_lists.proofs.FlatLists.{both}
use Rattle.grb_lists.proofs.Places.{first, second}

is_it : (q k : ℕ) → nat_eq q k ≡ true → q ≡ k
is_it q k h = grind (arith, nat_tests)

pub none_last : (q : ℕ) (es : List Change) → AllByRecursion (λ y. nat_eq q y ≡ false) (keys_of es) → last_at q es ≡ None
none_last q [] h = refl
none_last q (e ∷ es) h = ap (λ l. option_or l (cond (nat_eq q e.0) (Some e.1) None)) (none_last q es h.1) ∙ ap (λ b. cond b (Some e.1) None) h.0

-- the only change of an index is the last
pub last_at-lookup : (q : ℕ) (es : List Change) → IsDistinct nat_eq (keys_of es) → last_at q es ≡ lookup (nat_eq q) es
last_at-lookup q [] h = refl
last_at-lookup q (e ∷ es) h =
    elim (nat_eq q e.0) as (λ b. nat_eq q e.0 ≡ b → option_or (last_at q es) (cond b (Some e.1) None) ≡ cond b (Some e.1) (lookup (nat_eq q) es)) [
      | true ↦ λ t. ap (λ l. option_or l (Some e.1)) (none_last q es (subst (λ x. AllByRecursion (λ y. nat_eq x y ≡ false) (keys_of es)) (sym (is_it q e.0 t)) (IsDistinct-head nat_eq e.0 (keys_of es) h)))
      | false ↦ λ t. or_none (last_at q es) ∙ last_at-lookup q es (IsDistinct-tail nat_eq e.0 (keys_of es) h)
    ] refl
  where
    or_none : (l : Option (Option Value)) → option_or l None ≡ l
    or_none None = refl
    or_none (Some x) = refl

-- ---- in rising order
rank : (a b : ℕ) → a < b → T (is_lt (nat_cmp a b))
rank a b l = subst T (sym (is a b l)) tt
  where
    is : (a b : ℕ) → a < b → is_lt (nat_cmp a b) ≡ true
    is a b l = grind (arith, nat_tests)

lower_all : (x y : ℕ) (es : List Change) → x < y → T (below_all nat_cmp y es) → T (below_all nat_cmp x es)
lower_all x y [] l h = tt
lower_all x y (e ∷ es) l h =
    let up = lt_of y e.0 (first _ _ h) in
    both _ _ (rank x e.0 (omega (arith, l, up))) (lower_all x y es l (second _ _ h))

below_first : (x : ℕ) (es : List Change) → ((d : Change) → 0 < length es → x < (get_or es 0 d).0) → T (is_sorted nat_cmp es) → T (below_all nat_cmp x es)
below_first x [] h s = tt
below_first x (e ∷ es) h s = let l = h e (omega arith) in both _ _ (rank x e.0 l) (lower_all x e.0 es l (first _ _ s))

strictly : (a b : ℕ) → a ≤ b → nat_eq a b ≡ false → a < b
strictly a b l h = grind (arith, nat_tests)

-- what does not fall and differs rises
pub is_sorted-distinct : (es : List Change) → IsSortedByKey (λ c. c.0) nat_cmp es → IsDistinct nat_eq (keys_of es) → T (is_sorted nat_cmp es)
is_sorted-distinct [] s h = tt
is_sorted-distinct (e ∷ es) s h =
    let rest = is_sorted-distinct es next (IsDistinct-tail nat_eq e.0 (keys_of es) h) in
    both _ _ (below_first e.0 es (head e es (IsDistinct-head nat_eq e.0 (keys_of es) h) (λ d l. s 0 d (omega arith) (omega (arith, l)))) rest) rest
  where
    next : IsSortedByKey (λ c. c.0) nat_cmp es
    next k x z l =
        let same : suc k + 1 ≡ suc (k + 1) = omega arith in
        subst (λ n. is_lt (nat_cmp (get_or (e ∷ es) n x).0 (get_or es k x).0) ≡ false) same (s (suc k) x (omega arith) (omega arith))

    head : (e : Change) (es : List Change) → AllByRecursion (λ y. nat_eq e.0 y ≡ false) (keys_of es) → ((d : Change) → 0 < length es → is_lt (nat_cmp (get_or es 0 d).0 e.0) ≡ false) → (d : Change) → 0 < length es → e.0 < (get_or es 0 d).0
    head e [] a s d l = absurd (omega arith)
    head e (f ∷ es) a s d l = strictly e.0 f.0 (not_less e.0 f.0 (s d l)) a.0

-- what holds of each that is found holds of each that stands there
pub all_found : (domain : Domain) (es : List Change) → T (is_sorted nat_cmp es) → ((q : ℕ) → IfSome (find nat_cmp q es) (λ c. IsChangeOf domain (q, c))) → All (IsChangeOf domain) es
all_found domain es h f = λ k d l.
    let e = get_or es k d in
    subst (λ w. IfSome w (λ c. IsChangeOf domain (e.0, c))) (find-key es k d h l) (f e.0)

-- ---- the last change of each index, after a stable sort
last_of : List Change → Option (Option Value)
last_of [] = None
last_of (c ∷ cs) = option_or (last_of cs) (Some c.1)

last_at-filter : (q : ℕ) (cs : List Change) → last_at q cs ≡ last_of (filter (λ c. nat_eq q c.0) cs)
unfolding last_of
last_at-filter q [] = refl
last_at-filter q (c ∷ cs) =
    elim (nat_eq q c.0) as (λ b. option_or (last_at q cs) (cond b (Some c.1) None) ≡ last_of (cond b (c ∷ filter (λ c. nat_eq q c.0) cs) (filter (λ c. nat_eq q c.0) cs))) [
      | true ↦ ap (λ l. option_or l (Some c.1)) (last_at-filter q cs)
      | false ↦ or_none (last_at q cs) ∙ last_at-filter q cs
    ]
  where
    or_none : (l : Option (Option Value)) → option_or l None ≡ l
    or_none None = refl
    or_none (Some x) = refl

pub last_at-stable : (xs ys : List Change) → IsStableByKey (λ c. c.0) nat_cmp xs ys → (q : ℕ) → last_at q ys ≡ last_at q xs
last_at-stable xs ys stable q =
    last_at-filter q ys
    ∙ ap last_of (filter_agree (λ c. nat_eq q c.0) (ties (λ a b. is_lt (nat_cmp a.0 b.0)) (q, None)) (λ c. same q c.0) ys
    ∙ stable (q, None)
    ∙ sym (filter_agree (λ c. nat_eq q c.0) (ties (λ a b. is_lt (nat_cmp a.0 b.0)) (q, None)) (λ c. same q c.0) xs))
    ∙ sym (last_at-filter q xs)
  where
    same : (q k : ℕ) → nat_eq q k ≡ (not (is_lt (nat_cmp q k)) && not (is_lt (nat_cmp k q)))
    same q k = grind (arith, nat_tests)
