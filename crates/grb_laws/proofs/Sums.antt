-- Sums of values that may be absent: what is not stored is the zero of every semiring.
use Rattle.std.proofs.Common.{◌≡◌, ℕ, List, [], ◌∷◌, refl, sym, ap, subst, ◌∙◌}
use Rattle.std.specs.Prelude.{Option, Some, None}
use Rattle.grb_core.specs.declared.value.Value.{Value}
use Rattle.grb_core.specs.Value.{IsValueOf}
use Rattle.grb_core.specs.Operator.{op_domain, value_of_op}
use Rattle.grb_core.specs.Monoid.{monoid_op, monoid_domain, identity_of, IsCommutativeMonoid}
use Rattle.grb_core.specs.Fold.{fold_of_some}
use Rattle.grb_core.specs.Semiring.{SemiringParts}
use Rattle.grb_core.specs.Entries.{before_entries, map_on, values_of}
use Rattle.grb_core.specs.Written.{either_value, both_values}
use Rattle.grb_core.proofs.MonoidLaws.{monoid_laws}
use Rattle.grb_core.proofs.Made.{Holds, holds_either, holds_both, op_closed}
use Rattle.grb_laws.specs.Laws.{IsDistributive}

module _ (s : SemiringParts) where
  -- the value is of the semiring's domain, if there is one
  abbrev pub Is : Option Value → Type 0
  Is w = Holds (IsValueOf (op_domain s.op)) w

  abbrev pub plus : Option Value → Option Value → Option Value
  plus x y = either_value (value_of_op (monoid_op s.monoid)) x y

  abbrev pub times : Option Value → Option Value → Option Value
  times x y = both_values (value_of_op s.op) x y

  -- the sum of f over a list
  abbrev pub total : (ℕ → Option Value) → List ℕ → Option Value
  total f [] = None
  total f (k ∷ ks) = plus (f k) (total f ks)

  pub total-same : (f g : ℕ → Option Value) → ((k : ℕ) → f k ≡ g k) → (ks : List ℕ) → total f ks ≡ total g ks
  total-same f g h [] = refl
  total-same f g h (k ∷ ks) = ap (λ w. plus w (total f ks)) (h k) ∙ ap (plus (g k)) (total-same f g h ks)

  pub total-none : (f : ℕ → Option Value) → ((k : ℕ) → f k ≡ None) → (ks : List ℕ) → total f ks ≡ None
  total-none f h [] = refl
  total-none f h (k ∷ ks) = ap (λ w. plus w (total f ks)) (h k) ∙ total-none f h ks

  pub times_none : (w : Option Value) → times w None ≡ None
  times_none None = refl
  times_none (Some v) = refl

  module _ (one_domain : monoid_domain s.monoid ≡ op_domain s.op) where
    laws : IsCommutativeMonoid (IsValueOf (op_domain s.op)) (value_of_op (monoid_op s.monoid)) (identity_of s.monoid)
    laws = subst (λ d. IsCommutativeMonoid (IsValueOf d) (value_of_op (monoid_op s.monoid)) (identity_of s.monoid)) one_domain (monoid_laws s.monoid)

    plus_is : (x y : Option Value) → Is x → Is y → Is (plus x y)
    plus_is x y g h = holds_either (IsValueOf (op_domain s.op)) (value_of_op (monoid_op s.monoid)) laws.closed x y g h

    pub times_is : (x y : Option Value) → Is x → Is y → Is (times x y)
    times_is x y g h = holds_both (IsValueOf (op_domain s.op)) (value_of_op s.op) (op_closed s.op) x y g h

    pub total_is : (f : ℕ → Option Value) → ((k : ℕ) → Is (f k)) → (ks : List ℕ) → Is (total f ks)
    total_is f h [] = tt
    total_is f h (k ∷ ks) = plus_is (f k) (total f ks) (h k) (total_is f h ks)

    pub plus_nothing : (x : Option Value) → plus x None ≡ x
    plus_nothing None = refl
    plus_nothing (Some x) = refl

    plus_assoc : (x y z : Option Value) → Is x → Is y → Is z → plus (plus x y) z ≡ plus x (plus y z)
    plus_assoc None y z f g h = refl
    plus_assoc (Some x) None z f g h = refl
    plus_assoc (Some x) (Some y) None f g h = refl
    plus_assoc (Some x) (Some y) (Some z) f g h = ap Some (laws.associative x y z f g h)

    plus_comm : (x y : Option Value) → Is x → Is y → plus x y ≡ plus y x
    plus_comm None None g h = refl
    plus_comm None (Some y) g h = refl
    plus_comm (Some x) None g h = refl
    plus_comm (Some x) (Some y) g h = ap Some (laws.commutative x y g h)

    -- the fold of the values that f makes is their sum
    folded : (v : Value) (vs : List Value) (w : Option Value) → IsValueOf (op_domain s.op) v → fold_of_some s.monoid vs ≡ w → fold_of_some s.monoid (v ∷ vs) ≡ plus (Some v) w
    folded v [] w is e = ap Some (laws.commutative v (identity_of s.monoid) is laws.identity_is ∙ laws.neutral v is) ∙ ap (plus (Some v)) e
    folded v (u ∷ vs) w is e = ap (plus (Some v)) e

    pub fold-total : (f : ℕ → Option Value) → ((k : ℕ) → Is (f k)) → (ks : List ℕ) → fold_of_some s.monoid (values_of (map_on ks f)) ≡ total f ks
    fold-total f h [] = refl
    fold-total f h (k ∷ ks) =
        elim (f k) as (λ w. Is w → fold_of_some s.monoid (values_of (before_entries k w (map_on ks f))) ≡ plus w (total f ks)) [
          | None ↦ λ is. fold-total f h ks
          | Some v ↦ λ is. folded v (values_of (map_on ks f)) (total f ks) is (fold-total f h ks)
        ] (h k)

    interchange : (x y z w : Option Value) → Is x → Is y → Is z → Is w → plus (plus x y) (plus z w) ≡ plus (plus x z) (plus y w)
    interchange x y z w p q r t =
        plus_assoc x y (plus z w) p q (plus_is z w r t)
        ∙ ap (plus x) (sym (plus_assoc y z w q r t) ∙ ap (λ u. plus u w) (plus_comm y z q r) ∙ plus_assoc z y w r q t)
        ∙ sym (plus_assoc x z (plus y w) p r (plus_is y w q t))

    total-plus : (f g : ℕ → Option Value) → ((k : ℕ) → Is (f k)) → ((k : ℕ) → Is (g k)) → (ks : List ℕ) → total (λ k. plus (f k) (g k)) ks ≡ plus (total f ks) (total g ks)
    total-plus f g p q [] = refl
    total-plus f g p q (k ∷ ks) =
        ap (plus (plus (f k) (g k))) (total-plus f g p q ks) ∙ interchange (f k) (g k) (total f ks) (total g ks) (p k) (q k) (total_is f p ks) (total_is g q ks)

    -- the sums of the rows of a table, and those of its columns, have one sum
    pub exchanged : (f : ℕ → ℕ → Option Value) → ((j k : ℕ) → Is (f j k)) → (js ks : List ℕ) → total (λ j. total (f j) ks) js ≡ total (λ k. total (λ j. f j k) js) ks
    exchanged f h [] ks = sym (total-none (λ k. None) (λ k. refl) ks)
    exchanged f h (j ∷ js) ks =
        ap (plus (total (f j) ks)) (exchanged f h js ks)
        ∙ sym (total-plus (f j) (λ k. total (λ i. f i k) js) (h j) (λ k. total_is (λ i. f i k) (λ i. h i k) js) ks)

    module _ (ring : IsDistributive (IsValueOf (op_domain s.op)) (value_of_op (monoid_op s.monoid)) (value_of_op s.op)) where
      pub times_assoc : (x y z : Option Value) → Is x → Is y → Is z → times (times x y) z ≡ times x (times y z)
      times_assoc None y z p q r = refl
      times_assoc (Some x) None z p q r = refl
      times_assoc (Some x) (Some y) None p q r = refl
      times_assoc (Some x) (Some y) (Some z) p q r = ap Some (ring.associative x y z p q r)

      over_left : (x y z : Option Value) → Is x → Is y → Is z → times x (plus y z) ≡ plus (times x y) (times x z)
      over_left None y z p q r = refl
      over_left (Some x) None z p q r = refl
      over_left (Some x) (Some y) None p q r = refl
      over_left (Some x) (Some y) (Some z) p q r = ap Some (ring.from_left x y z p q r)

      over_right : (x y z : Option Value) → Is x → Is y → Is z → times (plus x y) z ≡ plus (times x z) (times y z)
      over_right None y z p q r = refl
      over_right (Some x) None None p q r = refl
      over_right (Some x) None (Some z) p q r = refl
      over_right (Some x) (Some y) None p q r = refl
      over_right (Some x) (Some y) (Some z) p q r = ap Some (ring.from_right x y z p q r)

      pub times-total : (x : Option Value) (f : ℕ → Option Value) → Is x → ((k : ℕ) → Is (f k)) → (ks : List ℕ) → times x (total f ks) ≡ total (λ k. times x (f k)) ks
      times-total x f p q [] = times_none x
      times-total x f p q (k ∷ ks) = over_left x (f k) (total f ks) p (q k) (total_is f q ks) ∙ ap (plus (times x (f k))) (times-total x f p q ks)

      pub total-times : (f : ℕ → Option Value) (z : Option Value) → ((k : ℕ) → Is (f k)) → Is z → (ks : List ℕ) → times (total f ks) z ≡ total (λ k. times (f k) z) ks
      total-times f z p q [] = refl
      total-times f z p q (k ∷ ks) = over_right (f k) (total f ks) z (p k) (total_is f p ks) q ∙ ap (plus (times (f k) z)) (total-times f z p q ks)
