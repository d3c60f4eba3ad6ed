-- Values folded window by window, where those at listed places are passed over.
use Rattle.std.proofs.Common.{◌≡◌, ◌≢◌, ℕ, zero, suc, ◌+◌, ◌<◌, ◌≤◌, Bool, true, false, cond, nat_eq, List, [], ◌∷◌, ◌++◌, length, get_or, set, take, drop, refl, sym, ap, subst, ◌∙◌, arith, ◌-◌}
use Rattle.std.specs.Prelude.{◌||◌, map, All}
use Rattle.std.specs.List.{AllByRecursion, slice_range}
use Rattle.std.proofs.lemmas.Bool.Decides.{nat_tests}
use Rattle.std.proofs.lemmas.List.{append-nil, drop_all, map-append, length-map, length-take, length-drop, get_or-set_same, get_or-set_other}
use Rattle.std.proofs.lemmas.List.Elements.{recursion_from_All}
use Rattle.std.proofs.lemmas.List.Folds.{drop_split, list_any_more}
use Rattle.grb_core.specs.declared.value.Value.{Value}
use Rattle.grb_core.specs.declared.monoid.Monoid.{Monoid}
use Rattle.grb_core.specs.Value.{IsValueOf}
use Rattle.grb_core.specs.Operator.{value_of_op}
use Rattle.grb_core.specs.Monoid.{monoid_op, monoid_domain, identity_of}
use Rattle.grb_core.specs.Fold.{fold_of}
use Rattle.grb_core.proofs.Folds.{fold_of-is, fold_of-append}
use Rattle.grb_core.proofs.Made.{all-map}
use Rattle.grb_core.proofs.MonoidLaws.{monoid_laws}
use Rattle.grb_rows.specs.Layers.{is_listed}
use Rattle.grb_folds.specs.Changed.{remaining}
use Rattle.grb_semirings.proofs.Folds.{IsFolding, folded_more}

-- values of which those are passed over whose places a test passes
pub remaining-same : {X : Type 0} (out other : ℕ → Bool) (vs : List X) → ((q : ℕ) → q < length vs → out q ≡ other q) → remaining out vs ≡ remaining other vs
remaining-same {X = X} out other [] h = refl
remaining-same {X = X} out other (v ∷ vs) h =
    let rest = remaining-same (λ q. out (suc q)) (λ q. other (suc q)) vs (λ q l. h (suc q) (omega arith)) in
    ap (λ b. cond b (remaining (λ q. out (suc q)) vs) (v ∷ remaining (λ q. out (suc q)) vs)) (h zero (omega arith))
    ∙ ap (λ (t : List X). cond (other zero) t (v ∷ t)) rest

pub remaining-none : {X : Type 0} (out : ℕ → Bool) (vs : List X) → ((q : ℕ) → q < length vs → out q ≡ false) → remaining out vs ≡ vs
remaining-none {X = X} out [] h = refl
remaining-none {X = X} out (v ∷ vs) h =
    ap (λ b. cond b (remaining (λ q. out (suc q)) vs) (v ∷ remaining (λ q. out (suc q)) vs)) (h zero (omega arith))
    ∙ ap (λ (t : List X). v ∷ t) (remaining-none (λ q. out (suc q)) vs (λ q l. h (suc q) (omega arith)))

pub remaining-append : {X : Type 0} (out : ℕ → Bool) (us vs : List X) → remaining out (us ++ vs) ≡ remaining out us ++ remaining (λ q. out (length us + q)) vs
remaining-append out [] vs = remaining-same out (λ q. out (zero + q)) vs (λ q l. ap out (omega arith))
remaining-append {X = X} out (u ∷ us) vs =
    let shifted = remaining-same (λ q. out (suc (length us + q))) (λ q. out (suc (length us) + q)) vs (λ q l. ap out (omega arith)) in
    elim (out zero) as (λ b. cond b (remaining (λ q. out (suc q)) (us ++ vs)) (u ∷ remaining (λ q. out (suc q)) (us ++ vs)) ≡ cond b (remaining (λ q. out (suc q)) us) (u ∷ remaining (λ q. out (suc q)) us) ++ remaining (λ q. out (suc (length us) + q)) vs) [
      | true ↦ remaining-append (λ q. out (suc q)) us vs ∙ ap (λ (t : List X). remaining (λ q. out (suc q)) us ++ t) shifted
      | false ↦ ap (λ (t : List X). u ∷ t) (remaining-append (λ q. out (suc q)) us vs ∙ ap (λ (t : List X). remaining (λ q. out (suc q)) us ++ t) shifted)
    ]

pub all-remaining : {X : Type 0} (P : X → Type 0) (out : ℕ → Bool) (vs : List X) → AllByRecursion P vs → AllByRecursion P (remaining out vs)
all-remaining P out [] h = tt
all-remaining P out (v ∷ vs) h =
    let rest = all-remaining P (λ q. out (suc q)) vs h.1 in
    elim (out zero) as (λ b. AllByRecursion P (cond b (remaining (λ q. out (suc q)) vs) (v ∷ remaining (λ q. out (suc q)) vs))) [ true ↦ rest | false ↦ (h.0, rest) ]

-- tests of places
is_same : (a b : ℕ) → nat_eq a b ≡ true → a ≡ b
is_same a b h = grind (arith, nat_tests)

is_other : (a b : ℕ) → a ≢ b → nat_eq a b ≡ false
is_other a b n = grind (arith, nat_tests)

is_itself : (a b : ℕ) → a ≡ b → nat_eq a b ≡ true
is_itself a b e = grind (arith, nat_tests)

or_true : (a : Bool) → (a || true) ≡ true
or_true true = refl
or_true false = refl

or_false : (a : Bool) → (a || false) ≡ a
or_false true = refl
or_false false = refl

-- one more place that is listed: in the window it is marked, and elsewhere it changes nothing
module _ (ks : List ℕ) (i : ℕ) (inside : i < length ks) where
  listed_next : (q : ℕ) (b : Bool) → nat_eq q (get_or ks i 0) ≡ b → is_listed (take (i + 1) ks) q ≡ (is_listed (take i ks) q || b)
  listed_next q b e = list_any_more (nat_eq q) ks i 0 inside ∙ ap (λ x. is_listed (take i ks) q || x) e

  pub marked_here : (ms : List Bool) (start at : ℕ) → start + at ≡ get_or ks i 0 → at < length ms → ((q : ℕ) → q < length ms → get_or ms q false ≡ is_listed (take i ks) (start + q))
      → (q : ℕ) → q < length ms → get_or (set ms at true) q false ≡ is_listed (take (i + 1) ks) (start + q)
  marked_here ms start at e there was q l =
      elim (nat_eq q at) as (λ b. nat_eq q at ≡ b → get_or (set ms at true) q false ≡ is_listed (take (i + 1) ks) (start + q)) [
        | true ↦ λ t.
            let same : q ≡ at = is_same q at t in
            ap (λ p. get_or (set ms at true) p false) same ∙ get_or-set_same ms at true false there
            ∙ sym (listed_next (start + q) true (is_itself (start + q) (get_or ks i 0) (omega arith)) ∙ or_true (is_listed (take i ks) (start + q)))
        | false ↦ λ t.
            let other : q ≢ at = λ h. cc (sym t ∙ is_itself q at h) in
            get_or-set_other ms at q true false other ∙ was q l
            ∙ sym (listed_next (start + q) false (is_other (start + q) (get_or ks i 0) (λ h. other (omega (arith, h, e)))) ∙ or_false (is_listed (take i ks) (start + q)))
      ] refl

  pub listed_elsewhere : (start q : ℕ) → start + q ≢ get_or ks i 0 → is_listed (take (i + 1) ks) (start + q) ≡ is_listed (take i ks) (start + q)
  listed_elsewhere start q n = listed_next (start + q) false (is_other (start + q) (get_or ks i 0) n) ∙ or_false (is_listed (take i ks) (start + q))

module _ (m : Monoid) where
  -- one more value, which counts as the identity where there is a mark
  pub unmarked_step : (out : ℕ → Bool) (us : List Value) (w sum taken next : Value) (i : ℕ) (b : Bool) → length us ≡ i → out i ≡ b → IsFolding m (remaining out us) sum
      → IsValueOf (monoid_domain m) w → taken ≡ cond b (identity_of m) w → next ≡ value_of_op (monoid_op m) sum taken → IsFolding m (remaining out (us ++ w ∷ [])) next
  unmarked_step out us w sum taken next i b e mark h is took made =
      subst (λ vs. IsFolding m vs next) (sym (remaining-append out us (w ∷ []) ∙ ap (λ c. remaining out us ++ cond c [] (w ∷ [])) (ap out (omega (arith, e)) ∙ mark)))
      (by_mark b took)
    where
      by_mark : (c : Bool) → taken ≡ cond c (identity_of m) w → IsFolding m (remaining out us ++ cond c [] (w ∷ [])) next
      by_mark true t =
          let laws = monoid_laws m in
          let is_sum : IsValueOf (monoid_domain m) sum = subst (IsValueOf (monoid_domain m)) (sym h.is_sum) (fold_of-is m (remaining out us) h.of_domain) in
          let same : next ≡ sum = made ∙ ap (value_of_op (monoid_op m) sum) t ∙ laws.commutative sum (identity_of m) is_sum laws.identity_is ∙ laws.neutral sum is_sum in
          subst (λ vs. IsFolding m vs next) (sym (append-nil (remaining out us))) (subst (IsFolding m (remaining out us)) (sym same) h)
      by_mark false t = folded_more m (remaining out us) sum w next h is (made ∙ ap (value_of_op (monoid_op m) sum) t)

-- a fold of windows: the sum so far, and what comes to it
pub record IsUnderWay (m : Monoid) {X : Type 0} (tv : X → Value) (vs : List X) (places : List ℕ) (start : ℕ) (sum : Value) : Type 0 where
  pub within : start ≤ length vs
  pub is_of : IsValueOf (monoid_domain m) sum
  pub all_of : AllByRecursion (IsValueOf (monoid_domain m)) (map tv (drop start vs))
  pub rest : value_of_op (monoid_op m) sum (fold_of m (remaining (λ q. is_listed places (start + q)) (map tv (drop start vs)))) ≡ fold_of m (remaining (is_listed places) (map tv vs))

all_front : (P : Value → Type 0) (us vs : List Value) → AllByRecursion P (us ++ vs) → AllByRecursion P us
all_front P [] vs h = tt
all_front P (u ∷ us) vs h = (h.0, all_front P us vs h.1)

all_back : (P : Value → Type 0) (us vs : List Value) → AllByRecursion P (us ++ vs) → AllByRecursion P vs
all_back P [] vs h = h
all_back P (u ∷ us) vs h = all_back P us vs h.1

pub all_mapped : (P : Value → Type 0) {X : Type 0} (tv : X → Value) (vs : List X) → All (λ x. P (tv x)) vs → AllByRecursion P (map tv vs)
all_mapped P tv vs h = all-map P tv vs (recursion_from_All (λ x. P (tv x)) vs h)

module _ (m : Monoid) {X : Type 0} (tv : X → Value) (vs : List X) (places : List ℕ) where
  pub under_way-first : AllByRecursion (IsValueOf (monoid_domain m)) (map tv vs) → IsUnderWay m tv vs places 0 (identity_of m)
  under_way-first h = record {
    within = omega arith;
    is_of = (monoid_laws m).identity_is;
    all_of = h;
    rest = (monoid_laws m).neutral _ (fold_of-is m _ (all-remaining (IsValueOf (monoid_domain m)) (λ q. is_listed places (0 + q)) (map tv vs) h))
        ∙ ap (fold_of m) (remaining-same (λ q. is_listed places (0 + q)) (is_listed places) (map tv vs) (λ q l. ap (is_listed places) (omega arith)));
  }

  pub under_way-next : (start end : ℕ) (sum part next : Value) → IsUnderWay m tv vs places start sum → start ≤ end → end ≤ length vs
      → part ≡ fold_of m (remaining (λ q. is_listed places (start + q)) (map tv (slice_range vs start end))) → next ≡ value_of_op (monoid_op m) sum part → IsUnderWay m tv vs places end next
  under_way-next start end sum part next h l within made e =
      let Is = IsValueOf (monoid_domain m) in
      let window = map tv (slice_range vs start end) in
      let later = map tv (drop end vs) in
      let split : map tv (drop start vs) ≡ window ++ later = ap (map tv) (drop_split vs start end l) ∙ map-append tv (slice_range vs start end) (drop end vs) in
      let all : AllByRecursion Is (window ++ later) = subst (AllByRecursion Is) split h.all_of in
      let of_window = all_front Is window later all in
      let of_later = all_back Is window later all in
      let a = remaining (λ q. is_listed places (start + q)) window in
      let b = remaining (λ q. is_listed places (end + q)) later in
      let of_a : AllByRecursion Is a = all-remaining Is (λ q. is_listed places (start + q)) window of_window in
      let of_b : AllByRecursion Is b = all-remaining Is (λ q. is_listed places (end + q)) later of_later in
      let is_part : Is part = subst Is (sym made) (fold_of-is m a of_a) in
      let long : start + length window ≡ end = window_long start end l within in
      let both : remaining (λ q. is_listed places (start + q)) (map tv (drop start vs)) ≡ a ++ b =
      ap (remaining (λ q. is_listed places (start + q))) split ∙ remaining-append (λ q. is_listed places (start + q)) window later
      ∙ ap (λ (t : List Value). a ++ t) (remaining-same (λ q. is_listed places (start + (length window + q))) (λ q. is_listed places (end + q)) later (λ q _. ap (is_listed places) (omega (arith, long)))) in
      record {
        within = within;
        is_of = subst Is (sym e) ((monoid_laws m).closed sum part h.is_of is_part);
        all_of = of_later;
        rest = ap (λ x. value_of_op (monoid_op m) x (fold_of m b)) e
            ∙ (monoid_laws m).associative sum part (fold_of m b) h.is_of is_part (fold_of-is m b of_b)
            ∙ ap (value_of_op (monoid_op m) sum) (ap (λ x. value_of_op (monoid_op m) x (fold_of m b)) made ∙ sym (fold_of-append m a b of_a of_b) ∙ ap (fold_of m) (sym both))
            ∙ h.rest;
      }
    where
      window_long : (start end : ℕ) → start ≤ end → end ≤ length vs → start + length (map tv (slice_range vs start end)) ≡ end
      window_long start end l within =
          let a = length-map (slice_range vs start end) tv in
          let b = length-take (end - start) (drop start vs) in
          let c = length-drop start vs in
          omega (arith, a, b, c)

  pub under_way-last : (start : ℕ) (sum : Value) → IsUnderWay m tv vs places start sum → length vs ≤ start → sum ≡ fold_of m (remaining (is_listed places) (map tv vs))
  under_way-last start sum h l =
      let laws = monoid_laws m in
      sym (laws.commutative sum (identity_of m) h.is_of laws.identity_is ∙ laws.neutral sum h.is_of)
      ∙ ap (λ (t : List X). value_of_op (monoid_op m) sum (fold_of m (remaining (λ q. is_listed places (start + q)) (map tv t)))) (sym (drop_all start vs l))
      ∙ h.rest

  -- a sum that no value changes is the sum of all windows
  pub under_way-ends : (start : ℕ) (sum : Value) → IsUnderWay m tv vs places start sum → ((v : Value) → IsValueOf (monoid_domain m) v → value_of_op (monoid_op m) sum v ≡ sum)
      → sum ≡ fold_of m (remaining (is_listed places) (map tv vs))
  under_way-ends start sum h stays =
      sym (stays _ (fold_of-is m _ (all-remaining (IsValueOf (monoid_domain m)) (λ q. is_listed places (start + q)) (map tv (drop start vs)) h.all_of))) ∙ h.rest

-- a value where there is no mark, and else another
pub taken_is : {X : Type 0} (tv : X → Value) (b : Bool) (none read item chosen : X) (w : Value) → chosen ≡ cond b none read → tv none ≡ w → read ≡ item → tv chosen ≡ cond b w (tv item)
taken_is tv true none read item chosen w h n r = ap tv h ∙ n
taken_is tv false none read item chosen w h n r = ap tv h ∙ ap tv r
