-- Of the refusals that apply, that of the lowest number is answered.
use Rattle.std.proofs.Common.{◌≡◌, ℕ, ◌+◌, ◌≤◌, Bool, true, false, cond, nat_eq, refl, sym, ap, subst, ◌∙◌, arith, inl, inr}
use Rattle.std.specs.Prelude.{not, Option, Some, None}
use Rattle.std.specs.Option.{option_or}
use Rattle.std.proofs.lemmas.Bool.{cases_eq}
use Rattle.grb_core.specs.declared.refusal.Refusal.{Refusal}
use Rattle.grb_core.specs.declared.refusal.Refusal.TheVariants.{UninitializedObject, InvalidValue, InvalidIndex, DomainMismatch, DimensionMismatch, OutputNotEmpty, IndexOutOfBounds, OrderFull, OutOfMemory, Panic}
use Rattle.grb_core.specs.Refusal.{refusal_number, IsLowest}
use Rattle.grb_call.specs.declared.call.Call.{Call}
use Rattle.grb_call.specs.Shapes.{ObjectShapes}
use Rattle.grb_call.specs.Refused.{is_initialized, has_valid_values, has_valid_index, has_one_domain, has_fitting_dims, refused_by_shapes, AppliesByShapes, is_in_bounds}
use Rattle.grb_call.specs.Store.{Store, shapes_of}
use Rattle.grb_call.specs.After.{has_old_entries, refused_build, refused, Applies}

-- the refusal of a number
of_number : ℕ → Refusal
of_number n = cond (nat_eq n 1) UninitializedObject (cond (nat_eq n 2) InvalidValue (cond (nat_eq n 3) InvalidIndex (cond (nat_eq n 4) DomainMismatch (cond (nat_eq n 5) DimensionMismatch (cond (nat_eq n 6) OutputNotEmpty (cond (nat_eq n 7) IndexOutOfBounds (cond (nat_eq n 8) OrderFull (cond (nat_eq n 9) OutOfMemory Panic))))))))

of_its_number : (r : Refusal) → of_number (refusal_number r) ≡ r
unfolding of_number
of_its_number UninitializedObject = refl
of_its_number InvalidValue = refl
of_its_number InvalidIndex = refl
of_its_number DomainMismatch = refl
of_its_number DimensionMismatch = refl
of_its_number OutputNotEmpty = refl
of_its_number IndexOutOfBounds = refl
of_its_number OrderFull = refl
of_its_number OutOfMemory = refl
of_its_number Panic = refl

one_number : (q r : Refusal) → refusal_number q ≡ refusal_number r → q ≡ r
one_number q r e = sym (of_its_number q) ∙ ap of_number e ∙ of_its_number r

positive : (r : Refusal) → 1 ≤ refusal_number r
positive UninitializedObject = omega arith
positive InvalidValue = omega arith
positive InvalidIndex = omega arith
positive DomainMismatch = omega arith
positive DimensionMismatch = omega arith
positive OutputNotEmpty = omega arith
positive IndexOutOfBounds = omega arith
positive OrderFull = omega arith
positive OutOfMemory = omega arith
positive Panic = omega arith

lowest-same : (P Q : Refusal → Type 0) → ((r : Refusal) → P r → Q r) → ((r : Refusal) → Q r → P r) → (o : Option Refusal) → IsLowest P o → IsLowest Q o
lowest-same P Q there back None low = λ r is. low r (back r is)
lowest-same P Q there back (Some p) low = (there p low.0, λ r is. low.1 r (back r is))

module _ (P : Refusal → Type 0) where
  -- of those from a number on
  abbrev From : ℕ → Refusal → Type 0
  From n r = P r × (n ≤ refusal_number r)

  -- one test before others, whose outcome goes on into an answer
  module _ (answer : Option Refusal → Option Refusal) (stays : (r : Refusal) → answer (Some r) ≡ Some r) where
    tested : (r : Refusal) (b : Bool) (o : Option Refusal) → (P r → b ≡ false) → (b ≡ false → P r) → IsLowest (From (refusal_number r + 1)) (answer o) → IsLowest (From (refusal_number r)) (answer (cond (not b) (Some r) o))
    tested r true o fails applies low = lowest-same (From (refusal_number r + 1)) (From (refusal_number r)) (λ q is. (is.0, let l = is.1 in omega arith)) (λ q is. (is.0, above q is)) (answer o) low
      where
        above : (q : Refusal) → From (refusal_number r) q → refusal_number r + 1 ≤ refusal_number q
        above q is =
            elim (cases_eq (refusal_number q) (refusal_number r)) [
              | inl e ↦ let never : true ≡ false = fails (subst P (one_number q r e) is.0) in absurd (cc)
              | inr e ↦ let l = is.1 in omega arith
            ]
    tested r false o fails applies low = subst (IsLowest (From (refusal_number r))) (sym (stays r)) ((applies refl, omega arith), λ q is. is.1)

  from_first : (o : Option Refusal) → IsLowest (From 1) o → IsLowest P o
  from_first o low = lowest-same (From 1) P (λ r is. is.0) (λ r is. (is, positive r)) o low

none_by_shapes : (s : ObjectShapes) (c : Call) (r : Refusal) → AppliesByShapes s c r × (6 ≤ refusal_number r) → ⊥
none_by_shapes s c UninitializedObject is = let l = is.1 in absurd (omega arith)
none_by_shapes s c InvalidValue is = let l = is.1 in absurd (omega arith)
none_by_shapes s c InvalidIndex is = let l = is.1 in absurd (omega arith)
none_by_shapes s c DomainMismatch is = let l = is.1 in absurd (omega arith)
none_by_shapes s c DimensionMismatch is = let l = is.1 in absurd (omega arith)
none_by_shapes s c OutputNotEmpty is = is.0
none_by_shapes s c IndexOutOfBounds is = is.0
none_by_shapes s c OrderFull is = is.0
none_by_shapes s c OutOfMemory is = is.0
none_by_shapes s c Panic is = is.0

none_in_a_store : (s : Store) (c : Call) (r : Refusal) → Applies s c r × (8 ≤ refusal_number r) → ⊥
none_in_a_store s c UninitializedObject is = let l = is.1 in absurd (omega arith)
none_in_a_store s c InvalidValue is = let l = is.1 in absurd (omega arith)
none_in_a_store s c InvalidIndex is = let l = is.1 in absurd (omega arith)
none_in_a_store s c DomainMismatch is = let l = is.1 in absurd (omega arith)
none_in_a_store s c DimensionMismatch is = let l = is.1 in absurd (omega arith)
none_in_a_store s c OutputNotEmpty is = let l = is.1 in absurd (omega arith)
none_in_a_store s c IndexOutOfBounds is = let l = is.1 in absurd (omega arith)
none_in_a_store s c OrderFull is = is.0
none_in_a_store s c OutOfMemory is = is.0
none_in_a_store s c Panic is = is.0

-- the five tests of shapes, and then what an answer makes of none
module _ (P : Refusal → Type 0) (answer : Option Refusal → Option Refusal) (stays : (r : Refusal) → answer (Some r) ≡ Some r) (s : ObjectShapes) (c : Call) where
  by_tests : (P UninitializedObject → is_initialized s c ≡ false) → (is_initialized s c ≡ false → P UninitializedObject)
      → (P InvalidValue → has_valid_values s c ≡ false) → (has_valid_values s c ≡ false → P InvalidValue)
      → (P InvalidIndex → has_valid_index s c ≡ false) → (has_valid_index s c ≡ false → P InvalidIndex)
      → (P DomainMismatch → has_one_domain s c ≡ false) → (has_one_domain s c ≡ false → P DomainMismatch)
      → (P DimensionMismatch → has_fitting_dims s c ≡ false) → (has_fitting_dims s c ≡ false → P DimensionMismatch)
      → IsLowest (From P 6) (answer None) → IsLowest P (answer (refused_by_shapes s c))
  by_tests a b d e f g h i j k rest =
      from_first P (answer (refused_by_shapes s c))
      (tested P answer stays UninitializedObject (is_initialized s c) _ a b
      (tested P answer stays InvalidValue (has_valid_values s c) _ d e
      (tested P answer stays InvalidIndex (has_valid_index s c) _ f g
      (tested P answer stays DomainMismatch (has_one_domain s c) _ h i
      (tested P answer stays DimensionMismatch (has_fitting_dims s c) None j k rest)))))

pub lowest-by_shapes : (s : ObjectShapes) (c : Call) → IsLowest (AppliesByShapes s c) (refused_by_shapes s c)
lowest-by_shapes s c = by_tests (AppliesByShapes s c) (λ o. o) (λ r. refl) s c (λ e. e) (λ e. e) (λ e. e) (λ e. e) (λ e. e) (λ e. e) (λ e. e) (λ e. e) (λ e. e) (λ e. e) (none_by_shapes s c)

pub lowest-in_a_store : (s : Store) (c : Call) → IsLowest (Applies s c) (refused s c)
lowest-in_a_store s c =
    by_tests (Applies s c) (λ o. option_or o (refused_build s c)) (λ r. refl) (shapes_of s) c (λ e. e) (λ e. e) (λ e. e) (λ e. e) (λ e. e) (λ e. e) (λ e. e) (λ e. e) (λ e. e) (λ e. e)
    (found (has_old_entries s c) _ (λ e. e) (λ e. e)
    (tested (Applies s c) (λ o. o) (λ r. refl) IndexOutOfBounds (is_in_bounds (shapes_of s) c) None (λ e. e) (λ e. e) (none_in_a_store s c)))
  where
    negated : (b : Bool) → b ≡ true → not b ≡ false
    negated true e = refl
    negated false e = sym e

    back : (b : Bool) → not b ≡ false → b ≡ true
    back true e = refl
    back false e = sym e

    twice : (b : Bool) (o : Option Refusal) → cond (not (not b)) (Some OutputNotEmpty) o ≡ cond b (Some OutputNotEmpty) o
    twice true o = refl
    twice false o = refl

    found : (b : Bool) (o : Option Refusal) → (Applies s c OutputNotEmpty → b ≡ true) → (b ≡ true → Applies s c OutputNotEmpty) → IsLowest (From (Applies s c) 7) o → IsLowest (From (Applies s c) 6) (cond b (Some OutputNotEmpty) o)
    found b o applies is rest = subst (IsLowest (From (Applies s c) 6)) (twice b o) (tested (Applies s c) (λ o. o) (λ r. refl) OutputNotEmpty (not b) o (λ e. negated b (applies e)) (λ e. is (back b e)) rest)
