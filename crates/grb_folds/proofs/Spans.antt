-- The values from one place of a list up to another, folded part by part.
use Rattle.std.proofs.Common.{◌≡◌, ℕ, zero, suc, ◌+◌, ◌-◌, ◌<◌, ◌≤◌, Bool, true, false, cond, List, [], ◌∷◌, ◌++◌, length, take, drop, get_or, refl, sym, ap, subst, ◌∙◌, arith}
use Rattle.std.specs.Prelude.{All, map, Some}
use Rattle.std.specs.List.{AllByRecursion}
use Rattle.std.proofs.lemmas.List.{map-append, drop-take, length-map, take_all}
use Rattle.std.proofs.lemmas.List.Elements.{recursion_from_All}
use Rattle.grb_core.specs.declared.domain.Domain.{Domain}
use Rattle.grb_core.specs.declared.value.Value.{Value}
use Rattle.grb_core.specs.declared.monoid.Monoid.{Monoid}
use Rattle.grb_core.specs.Entries.{values_of}
use Rattle.grb_kernels.specs.Typed.{entries_of}
use Rattle.grb_kernels.proofs.Lists.{values_of-entries}
use Rattle.grb_core.specs.Value.{IsValueOf}
use Rattle.grb_core.specs.Operator.{value_of_op}
use Rattle.grb_core.specs.Monoid.{monoid_op, monoid_domain, identity_of}
use Rattle.grb_core.specs.Fold.{fold_of, fold_of_some}
use Rattle.grb_core.proofs.Folds.{fold_of-is}
use Rattle.grb_core.proofs.Made.{all-map}
use Rattle.grb_semirings.proofs.Folds.{IsFolding, folded_parts, fold_of-one}

pub nothing_between : {X : Type 0} (s : ℕ) (xs : List X) → drop s (take s xs) ≡ []
nothing_between zero xs = refl
nothing_between (suc s) [] = refl
nothing_between (suc s) (x ∷ xs) = nothing_between s xs

pub span-join : {X : Type 0} (xs : List X) (s m e : ℕ) → s ≤ m → m ≤ e → drop s (take m xs) ++ drop m (take e xs) ≡ drop s (take e xs)
span-join xs zero zero e a b = refl
span-join xs zero (suc m) zero a b = absurd (omega arith)
span-join [] zero (suc m) (suc e) a b = refl
span-join (x ∷ xs) zero (suc m) (suc e) a b = ap (λ (t : List _). x ∷ t) (span-join xs zero m e (omega arith) (omega arith))
span-join xs (suc s) zero e a b = absurd (omega arith)
span-join xs (suc s) (suc m) zero a b = absurd (omega arith)
span-join [] (suc s) (suc m) (suc e) a b = refl
span-join (x ∷ xs) (suc s) (suc m) (suc e) a b = span-join xs s m e (omega arith) (omega arith)

pub span-one : {X : Type 0} (xs : List X) (s : ℕ) (x : X) → s < length xs → x ≡ get_or xs s x → drop s (take (suc s) xs) ≡ x ∷ []
span-one [] s x h is = absurd (omega arith)
span-one (y ∷ xs) zero x h is = ap (λ z. z ∷ []) (sym is)
span-one (y ∷ xs) (suc s) x h is = span-one xs s x (omega arith) is

-- a part of a list in its two forms
pub span_is : {X : Type 0} (xs : List X) (s e : ℕ) → s ≤ e → take (e - s) (drop s xs) ≡ drop s (take e xs)
span_is xs s e h = sym (drop-take s (e - s) xs) ∙ ap (λ n. drop s (take n xs)) (let is : s + (e - s) ≡ e = omega (arith, h) in is)

pub long_span : {X : Type 0} (xs : List X) (s e : ℕ) → s ≤ e → e ≤ length xs → length (drop s (take e xs)) + s ≡ e
long_span xs zero zero a b = refl
long_span xs (suc s) zero a b = absurd (omega arith)
long_span [] s (suc e) a b = absurd (omega arith)
long_span (x ∷ xs) zero (suc e) a b = let rest = long_span xs zero e (omega arith) (omega arith) in omega (arith, rest)
long_span (x ∷ xs) (suc s) (suc e) a b = let rest = long_span xs s e (omega arith) (omega arith) in omega (arith, rest)

some_of : (m : Monoid) (vs : List Value) (sum : Value) → 0 < length vs → sum ≡ fold_of m vs → Some sum ≡ fold_of_some m vs
some_of m [] sum h e = absurd (omega arith)
some_of m (v ∷ vs) sum h e = ap Some e

-- the fold of a row that has entries
pub some_fold : (m : Monoid) {V : Type 0} (value : V → Value) (cs : List ℕ) (vs : List V) (s e : ℕ) (sum : Value) → length cs ≡ length vs → s < e → e ≤ length cs
    → sum ≡ fold_of m (map value (drop s (take e vs))) → Some sum ≡ fold_of_some m (values_of (entries_of value (drop s (take e cs)) (drop s (take e vs))))
some_fold m value cs vs s e sum same some within is =
    let long = long_span vs s e (omega arith) (omega arith) in
    let longs = long_span cs s e (omega arith) (omega arith) in
    let more = length-map (drop s (take e vs)) value in
    some_of m (map value (drop s (take e vs))) sum (omega (arith, long, more, some)) is
    ∙ ap (fold_of_some m) (sym (values_of-entries value (drop s (take e cs)) (drop s (take e vs)) (omega (arith, long, longs))))

all_taken : {X : Type 0} (P : X → Type 0) (e : ℕ) (xs : List X) → AllByRecursion P xs → AllByRecursion P (take e xs)
all_taken P zero [] h = tt
all_taken P zero (x ∷ xs) h = tt
all_taken P (suc e) [] h = tt
all_taken P (suc e) (x ∷ xs) h = (h.0, all_taken P e xs h.1)

all_dropped : {X : Type 0} (P : X → Type 0) (s : ℕ) (xs : List X) → AllByRecursion P xs → AllByRecursion P (drop s xs)
all_dropped P zero xs h = h
all_dropped P (suc s) [] h = tt
all_dropped P (suc s) (x ∷ xs) h = all_dropped P s xs h.1

module _ (m : Monoid) {V : Type 0} (value : V → Value) (vs : List V) where
  -- a sum of the values between two places
  abbrev pub IsSpan : ℕ → ℕ → Value → Type 0
  IsSpan s e sum = IsFolding m (map value (drop s (take e vs))) sum

  pub no_span : (s : ℕ) → IsSpan s s (identity_of m)
  no_span s = subst (λ (us : List V). IsFolding m (map value us) (identity_of m)) (sym (nothing_between s vs)) (record { is_sum = refl; of_domain = tt })

  pub one_span : (s : ℕ) (x : V) (sum : Value) → s < length vs → x ≡ get_or vs s x → IsValueOf (monoid_domain m) (value x) → sum ≡ value x → IsSpan s (s + 1) sum
  one_span s x sum h at is e =
      subst (λ (us : List V). IsFolding m (map value us) sum) (sym (ap (λ e. drop s (take e vs)) (let more : s + 1 ≡ suc s = omega arith in more) ∙ span-one vs s x h at)) (record { is_sum = e ∙ sym (fold_of-one m (value x) is); of_domain = (is, tt) })

  pub below_two : (at end : ℕ) (taken : Bool) (x : V) (sum : Value) → at ≤ end → end < at + 2 → at < length vs → x ≡ get_or vs at x → IsValueOf (monoid_domain m) (value x)
      → (taken ≡ true → at < end) → (taken ≡ false → end ≤ at) → sum ≡ cond taken (value x) (identity_of m) → sum ≡ fold_of m (map value (drop at (take end vs)))
  below_two at end true x sum order few inside is of_domain more no_more made =
      let next : at + 1 ≡ end = (let l = more refl in omega (arith, l, few)) in
      (subst (λ e. IsSpan at e sum) next (one_span at x sum inside is of_domain made)).is_sum
  below_two at end false x sum order few inside is of_domain more no_more made =
      let same : at ≡ end = (let l = no_more refl in omega (arith, l, order)) in
      made ∙ (subst (λ e. IsSpan at e (identity_of m)) same (no_span at)).is_sum

  pub join_spans : (s k e : ℕ) (a b sum : Value) → s ≤ k → k ≤ e → IsSpan s k a → IsSpan k e b → sum ≡ value_of_op (monoid_op m) a b → IsSpan s e sum
  join_spans s k e a b sum l r g h made =
      subst (λ us. IsFolding m us sum) (sym (map-append value (drop s (take k vs)) (drop k (take e vs))) ∙ ap (map value) (span-join vs s k e l r))
      (folded_parts m (map value (drop s (take k vs))) (map value (drop k (take e vs))) a b sum g h made)

  module _ {d : Domain} (same : monoid_domain m ≡ d) (shown : All (λ x. IsValueOf d (value x)) vs) where
    all_is : All (λ x. IsValueOf (monoid_domain m) (value x)) vs
    all_is = subst (λ (k : Domain). All (λ x. IsValueOf k (value x)) vs) (sym same) shown

    -- what a fold is, as a sum
    pub span_of : (s e : ℕ) (sum : Value) → sum ≡ fold_of m (map value (drop s (take e vs))) → IsSpan s e sum
    span_of s e sum is = record {
      is_sum = is;
      of_domain = all-map (IsValueOf (monoid_domain m)) value (drop s (take e vs))
          (all_dropped (λ x. IsValueOf (monoid_domain m) (value x)) s (take e vs) (all_taken (λ x. IsValueOf (monoid_domain m) (value x)) e vs (recursion_from_All (λ x. IsValueOf (monoid_domain m) (value x)) vs all_is)));
    }

    -- two parts of w values, one after the other
    pub two_spans : (at w e : ℕ) (a b sum : Value) → (at + w) + w ≡ e → a ≡ fold_of m (map value (drop at (take (at + w) vs)))
        → b ≡ fold_of m (map value (drop (at + w) (take ((at + w) + w) vs))) → sum ≡ value_of_op (monoid_op m) a b → IsSpan at e sum
    two_spans at w e a b sum all p q made =
        join_spans at (at + w) e a b sum (omega arith) (omega (arith, all)) (span_of at (at + w) a p)
        (subst (λ k. IsSpan (at + w) k b) all (span_of (at + w) ((at + w) + w) b q)) made

    -- a sum so far that no value changes
    pub span_ends : (s k e : ℕ) (sum : Value) → s ≤ k → k ≤ e → IsSpan s k sum → ((v : Value) → IsValueOf (monoid_domain m) v → value_of_op (monoid_op m) sum v ≡ sum)
        → sum ≡ fold_of m (map value (drop s (take e vs)))
    span_ends s k e sum l r h stays =
        let rest = fold_of m (map value (drop k (take e vs))) in
        let of_rest = (span_of k e rest refl).of_domain in
        sym (stays rest (fold_of-is m (map value (drop k (take e vs))) of_rest))
        ∙ (join_spans s k e sum rest (value_of_op (monoid_op m) sum rest) l r h (span_of k e rest refl) refl).is_sum

    -- all values, as a part of them
    pub whole_span : (sum : Value) → IsSpan 0 (length vs) sum → sum ≡ fold_of m (map value vs)
    whole_span sum h = h.is_sum ∙ ap (λ us. fold_of m (map value us)) (take_all (length vs) vs (omega arith))

    -- a part of w values that is taken or not, and the rest
    pub part_and_rest : (at end w : ℕ) (taken : Bool) (part rest given sum : Value) → at ≤ end → (taken ≡ true → at + w ≤ end)
        → part ≡ fold_of m (map value (drop at (take (at + w) vs))) → given ≡ cond taken part (identity_of m)
        → rest ≡ fold_of m (map value (drop (cond taken (at + w) at) (take end vs))) → sum ≡ value_of_op (monoid_op m) given rest
        → sum ≡ fold_of m (map value (drop at (take end vs)))
    part_and_rest at end w true part rest given sum order fits p g r made =
        (join_spans at (at + w) end given rest sum (omega arith) (fits refl) (span_of at (at + w) given (g ∙ p)) (span_of (at + w) end rest r) made).is_sum
    part_and_rest at end w false part rest given sum order fits p g r made =
        (join_spans at at end given rest sum (omega arith) order (subst (IsSpan at at) (sym g) (no_span at)) (span_of at end rest r) made).is_sum
