-- Truth values that are all true: their products, and rows that are marked where there is one.
use Rattle.std.proofs.Common.{◌≡◌, ℕ, zero, suc, ◌+◌, ◌*◌, ◌<◌, ◌≤◌, Bool, true, false, cond, List, [], ◌∷◌, ◌++◌, inl, inr, refl, sym, ap, subst, ◌∙◌, arith, length, get_or, drop}
use Rattle.std.specs.Prelude.{◌≢◌, ◌||◌, Option, Some, None, is_some, map}
use Rattle.std.specs.List.{AllByRecursion}
use Rattle.std.specs.Ordering.{nat_cmp, eq_by_cmp}
use Rattle.std.specs.FinMap.{find}
use Rattle.std.proofs.lemmas.Bool.{cases_eq, cases_lt}
use Rattle.std.proofs.lemmas.Bool.Decides.{nat_tests}
use Rattle.std.proofs.lemmas.List.{drop_more, drop_all, get_or_past}
use Rattle.grb_core.specs.declared.value.Value.{Value}
use Rattle.grb_core.specs.declared.value.Value.TheVariants as value
use Rattle.grb_core.specs.declared.monoid.Monoid.{Monoid}
use Rattle.grb_core.specs.declared.operator.BinaryOp.{BinaryOp}
use Rattle.grb_core.specs.Value.{IsValueOf}
use Rattle.grb_core.specs.Operator.{value_of_op}
use Rattle.grb_core.specs.Monoid.{monoid_op, monoid_domain}
use Rattle.grb_core.specs.Fold.{fold_of, fold_of_some}
use Rattle.grb_core.specs.Entries.{VectorEntries, values_of}
use Rattle.grb_core.specs.Written.{both_values}
use Rattle.grb_core.proofs.Made.{all-append}
use Rattle.grb_kernels.specs.Bits.{has_bit}
use Rattle.grb_kernels.specs.Typed.{kept, entries_of}
use Rattle.grb_semirings.specs.Open.{marked_at}
use Rattle.grb_semirings.specs.Products.{list_of, products, is_any}
use Rattle.grb_semirings.proofs.Folds.{fold_of-one}
use Rattle.grb_sums.specs.Bits.{is_marked, value_at}
use Rattle.grb_sums.specs.Marks.{marks_from, marks_of, AreMarks}
use Rattle.grb_sums.proofs.MarkedPlaces.{marked_in_word}
use Rattle.grb_sums.proofs.MarksOf.{length-marks_of}
use Rattle.grb_sums.proofs.Reach.{find-none}

abbrev pub truth : Value
truth = value.Bool true

differ : false ≡ true → ⊥
differ e = cc

same_some : (v w : Value) → Some v ≡ Some w → v ≡ w
same_some v w e = cc

-- what is found among them
pub found_true : (m : VectorEntries) → AllByRecursion (λ e. e.1 ≡ truth) m → (j : ℕ) (v : Value) → find nat_cmp j m ≡ Some v → v ≡ truth
found_true [] h j v e = cc
found_true (e ∷ m) h j v is =
    elim (eq_by_cmp nat_cmp j e.0) as (λ b. cond b (Some e.1) (find nat_cmp j m) ≡ Some v → v ≡ truth) [
      | true ↦ λ (s : Some e.1 ≡ Some v). sym (same_some e.1 v s) ∙ h.0
      | false ↦ λ s. found_true m h.1 j v s
    ] is

-- values of entries, and entries by their values
pub true_entries : {K : Type 0} (m : List (K × Value)) → AllByRecursion (λ v. v ≡ truth) (values_of m) → AllByRecursion (λ e. e.1 ≡ truth) m
true_entries [] h = tt
true_entries (e ∷ m) h = (h.0, true_entries m h.1)

pub true_values : (vs : List Bool) → ((k : ℕ) → k < length vs → get_or vs k false ≡ true) → AllByRecursion (λ v. v ≡ truth) (map (λ (b : Bool). value.Bool b) vs)
true_values [] h = tt
true_values (b ∷ vs) h = (ap (λ (x : Bool). value.Bool x) (h 0 (omega arith)), true_values vs (λ k l. h (suc k) (omega (arith, l))))

pub keys_of : (cs : List ℕ) (vs : List Bool) → length cs ≡ length vs → map (λ e. e.0) (entries_of (λ (b : Bool). value.Bool b) cs vs) ≡ cs
keys_of [] vs e = refl
keys_of (c ∷ cs) [] e = absurd (omega (arith, e))
keys_of (c ∷ cs) (v ∷ vs) e = ap (λ (t : List ℕ). c ∷ t) (keys_of cs vs (omega (arith, e)))

abbrev any : List Value → Bool
any [] = false
any (v ∷ vs) = true

-- a fold of true values
fold_true : (m : Monoid) → value_of_op (monoid_op m) truth truth ≡ truth → IsValueOf (monoid_domain m) truth → (vs : List Value) → AllByRecursion (λ v. v ≡ truth) vs → fold_of_some m vs ≡ kept truth (any vs)
fold_true m plus of [] h = refl
fold_true m plus of (v ∷ vs) h = ap Some (whole v vs h)
  where
    whole : (v : Value) (vs : List Value) → AllByRecursion (λ v. v ≡ truth) (v ∷ vs) → fold_of m (v ∷ vs) ≡ truth
    whole v [] h = ap (λ x. fold_of m (x ∷ [])) h.0 ∙ fold_of-one m truth of
    whole v (w ∷ vs) h = ap (λ x. value_of_op (monoid_op m) x (fold_of m (w ∷ vs))) h.0 ∙ ap (value_of_op (monoid_op m) truth) (whole w vs h.1) ∙ plus

module _ (op : BinaryOp) (times : value_of_op op truth truth ≡ truth) (y : ℕ → Option Value) (y_true : (k : ℕ) (v : Value) → y k ≡ Some v → v ≡ truth) where
  one_true : (x : Value) (k : ℕ) → x ≡ truth → AllByRecursion (λ v. v ≡ truth) (list_of (both_values (value_of_op op) (Some x) (y k)))
  one_true x k e =
      elim (y k) as (λ w. y k ≡ w → AllByRecursion (λ v. v ≡ truth) (list_of (both_values (value_of_op op) (Some x) w))) [
        | None ↦ λ t. tt
        | Some v ↦ λ t. (ap (λ a. value_of_op op a v) e ∙ ap (value_of_op op truth) (y_true k v t) ∙ times, tt)
      ] refl

  products_true : (x : VectorEntries) → AllByRecursion (λ e. e.1 ≡ truth) x → AllByRecursion (λ v. v ≡ truth) (products op y x)
  products_true [] h = tt
  products_true (e ∷ x) h = all-append (λ v. v ≡ truth) (list_of (both_values (value_of_op op) (Some e.1) (y e.0))) (products op y x) (one_true e.1 e.0 h.0) (products_true x h.1)

  any_products : (x : VectorEntries) → any (products op y x) ≡ is_any y (map (λ e. e.0) x)
  any_products [] = refl
  any_products (e ∷ x) =
      elim (y e.0) as (λ w. any (list_of (both_values (value_of_op op) (Some e.1) w) ++ products op y x) ≡ (is_some w || is_any y (map (λ e. e.0) x))) [ None ↦ any_products x | Some v ↦ refl ]

  -- the sum of products of true values is true, where there is one
  pub true_fold : (m : Monoid) → value_of_op (monoid_op m) truth truth ≡ truth → IsValueOf (monoid_domain m) truth → (x : VectorEntries) → AllByRecursion (λ e. e.1 ≡ truth) x
      → fold_of_some m (products op y x) ≡ kept truth (is_any y (map (λ e. e.0) x))
  true_fold m plus of x h = fold_true m plus of (products op y x) (products_true x h) ∙ ap (kept truth) (any_products x)

-- a mark of a place that holds true
pub marked_true : {V : Type 0} (tv : V → Value) (ms : List Bool) (vs : List V) (j : ℕ) → length ms ≡ length vs → ((p : ℕ) → p < length vs → value_at tv vs p ≡ Some truth) → j < length vs
    → marked_at tv ms vs j ≡ kept truth (get_or ms j false)
marked_true tv [] vs j e h l = refl
marked_true tv (m ∷ ms) [] j e h l = absurd (omega (arith, l))
marked_true tv (m ∷ ms) (v ∷ vs) zero e h l = ap (λ x. kept x m) (same_some (tv v) truth (h 0 (omega arith)))
marked_true tv (m ∷ ms) (v ∷ vs) (suc j) e h l = marked_true tv ms vs j (omega (arith, e)) (λ p q. h (suc p) (omega (arith, q))) (omega (arith, l))

marks_from-at : (words : List ℕ) (j n i : ℕ) → i < n → get_or (marks_from words j n) i false ≡ is_marked words (j + i)
marks_from-at words j zero i l = absurd (omega (arith, l))
marks_from-at words j (suc n) zero l = ap (is_marked words) (let e : j ≡ j + 0 = omega arith in e)
marks_from-at words j (suc n) (suc i) l = marks_from-at words (j + 1) n i (omega (arith, l)) ∙ ap (is_marked words) (let e : j + 1 + i ≡ j + suc i = omega arith in e)

pub marks_at : (words : List ℕ) (n i : ℕ) → i < n → get_or (marks_of n words) i false ≡ is_marked words i
marks_at words n i l = marks_from-at words 0 n i l ∙ ap (is_marked words) (let e : 0 + i ≡ i = omega arith in e)

-- words that mark no place from a number on have these marks
pub are_marks : (words : List ℕ) (n : ℕ) → ((p : ℕ) → is_marked words p ≡ true → p < n) → AreMarks (marks_of n words) words
are_marks words n within w t low =
    let here = marked_in_word words w t low in
    elim (cases_lt (64 * w + t) n) [
      | inl inside ↦ sym here ∙ sym (marks_at words n (64 * w + t) inside)
      | inr past ↦
          elim (has_bit (get_or words w 0) t) as (λ b. has_bit (get_or words w 0) t ≡ b → b ≡ get_or (marks_of n words) (64 * w + t) false) [
            | true ↦ λ is. let l = within (64 * w + t) (here ∙ is) in absurd (omega (arith, l, past))
            | false ↦ λ is. sym (get_or_past (marks_of n words) (64 * w + t) false (omega (arith, past, length-marks_of words n)))
          ] refl
    ]

either_true : (b : Bool) → (b || true) ≡ true
either_true true = refl
either_true false = refl

either_false : (b : Bool) → (b || false) ≡ b
either_false true = refl
either_false false = refl

either_grouped : (a b c : Bool) → ((a || b) || c) ≡ (a || (b || c))
either_grouped true b c = refl
either_grouped false b c = refl

same_place : (p q : ℕ) → q ≡ p → eq_by_cmp nat_cmp p q ≡ true
same_place p q e = grind (arith, nat_tests)

other_place : (p q : ℕ) → (q ≡ p → ⊥) → eq_by_cmp nat_cmp p q ≡ false
other_place p q e = grind (arith, nat_tests)

-- one more place is marked
pub marked_more : (words words2 : List ℕ) (q : ℕ) (v : Value) (m rest : VectorEntries) (p : ℕ) (total : Bool) → is_marked words2 q ≡ true → ((i : ℕ) → i ≢ q → is_marked words2 i ≡ is_marked words i) → m ≡ (q, v) ∷ rest
    → (is_marked words p || is_some (find nat_cmp p m)) ≡ total → (is_marked words2 p || is_some (find nat_cmp p rest)) ≡ total
marked_more words words2 q v m rest p total here others split was =
    elim (cases_eq q p) [
      | inl e ↦
          ap (λ b. b || is_some (find nat_cmp p rest)) (subst (λ i. is_marked words2 i ≡ true) e here)
          ∙ sym (either_true (is_marked words p))
          ∙ ap (λ b. is_marked words p || is_some (cond b (Some v) (find nat_cmp p rest))) (sym (same_place p q e))
          ∙ ap (λ (k : VectorEntries). is_marked words p || is_some (find nat_cmp p k)) (sym split)
          ∙ was
      | inr n ↦
          ap (λ b. b || is_some (find nat_cmp p rest)) (others p (λ e. n (sym e)))
          ∙ ap (λ b. is_marked words p || is_some (cond b (Some v) (find nat_cmp p rest))) (sym (other_place p q n))
          ∙ ap (λ (k : VectorEntries). is_marked words p || is_some (find nat_cmp p k)) (sym split)
          ∙ was
    ]

pub marked_all : (words : List ℕ) (m : VectorEntries) (p : ℕ) (total : Bool) → m ≡ [] → (is_marked words p || is_some (find nat_cmp p m)) ≡ total → is_marked words p ≡ total
marked_all words m p total none was = sym (either_false (is_marked words p)) ∙ ap (λ (k : VectorEntries). is_marked words p || is_some (find nat_cmp p k)) (sym none) ∙ was

-- one more row is
pub rows_more : (y : ℕ → Option Value) (cs : List ℕ) (i : ℕ) (old new found : Bool) → i < length cs → new ≡ (old || found) → found ≡ is_some (y (get_or cs i 0)) → (old || is_any y (drop i cs)) ≡ is_any y cs → (new || is_any y (drop (i + 1) cs)) ≡ is_any y cs
rows_more y cs i old new found inside is there was =
    ap (λ b. b || is_any y (drop (i + 1) cs)) (is ∙ ap (λ b. old || b) there)
    ∙ either_grouped old (is_some (y (get_or cs i 0))) (is_any y (drop (i + 1) cs))
    ∙ ap (λ (ks : List ℕ). old || is_any y ks) (sym (drop_more cs i 0 inside))
    ∙ was

pub rows_all : (y : ℕ → Option Value) (cs : List ℕ) (i : ℕ) (b : Bool) → length cs ≤ i → (b || is_any y (drop i cs)) ≡ is_any y cs → b ≡ is_any y cs
rows_all y cs i b past was = sym (either_false b) ∙ ap (λ (ks : List ℕ). b || is_any y ks) (sym (drop_all i cs past)) ∙ was

-- a place that is found among those of a row is one of them
pub found_below : (n p : ℕ) (rs : List ℕ) (vs : List Bool) (old : Bool) → (old ≡ true → p < n) → ((k : ℕ) → k < length rs → get_or rs k 0 < n)
    → (old || is_some (find nat_cmp p (entries_of (λ (b : Bool). value.Bool b) rs vs))) ≡ true → p < n
found_below n p rs vs true was below is = was refl
found_below n p rs vs false was below is =
    elim (cases_lt p n) [
      | inl inside ↦ inside
      | inr past ↦
          absurd (differ (sym (ap (λ (w : Option Value). is_some w) (find-none (λ (b : Bool). value.Bool b) p rs vs (λ k l e. let b = below k l in omega (arith, b, e, past)))) ∙ is))
    ]

-- no row has a product there
pub none_any : (y : ℕ → Option Value) (cs : List ℕ) → ((k : ℕ) → k < length cs → y (get_or cs k 0) ≡ None) → is_any y cs ≡ false
none_any y [] h = refl
none_any y (k ∷ cs) h = ap (λ (w : Option Value). is_some w || is_any y cs) (h 0 (omega arith)) ∙ none_any y cs (λ i l. h (suc i) (omega (arith, l)))

-- the sum at a place, where all are true and it is marked where there is a product
pub sum_at : (words : List ℕ) (vs : List Bool) (p : ℕ) (b : Bool) → ((p : ℕ) → p < length vs → value_at (λ (b : Bool). value.Bool b) vs p ≡ Some truth) → p < length vs → is_marked words p ≡ b
    → marked_at (λ (b : Bool). value.Bool b) (marks_of (length vs) words) vs p ≡ kept truth b
sum_at words vs p b hold inside is =
    marked_true (λ (b : Bool). value.Bool b) (marks_of (length vs) words) vs p (length-marks_of words (length vs)) hold inside
    ∙ ap (kept truth) (marks_at words (length vs) p inside ∙ is)
