-- Which semirings distribute.
use Rattle.std.proofs.Common.{◌≡◌, ℕ, ◌+◌, ◌-◌, ◌*◌, ◌%◌, ◌^◌, Bool, true, false, [], ◌∷◌, refl, sym, ap, subst, ◌∙◌, arith, lit<, mul-add}
use Rattle.std.proofs.Math.Nat.{add-mod-mod, mod-add-mod}
use Rattle.std.proofs.lemmas.List.Elements.{All-from_recursion}
use Rattle.std.proofs.lemmas.Nat.{mul-mod_second}
use Rattle.grb_core.specs.declared.monoid.Monoid.{Monoid}
use Rattle.grb_core.specs.declared.monoid.Monoid.TheVariants as monoid
use Rattle.grb_core.specs.declared.operator.BinaryOp.{BinaryOp}
use Rattle.grb_core.specs.declared.operator.BinaryOp.TheVariants as op
use Rattle.grb_core.specs.declared.value.Value.{Value}
use Rattle.grb_core.specs.declared.value.Value.TheVariants as value
use Rattle.grb_core.specs.declared.domain.Domain.TheVariants as domain
use Rattle.grb_core.specs.Value.{IsValueOf}
use Rattle.grb_core.specs.Operator.{on_bools, on_numbers, value_of_op}
use Rattle.grb_core.specs.Monoid.{monoid_op, monoid_domain}
use Rattle.grb_core.proofs.MonoidLaws.{monoid_laws}
use Rattle.grb_core.specs.Entries.{Cell, MatrixEntries}
use Rattle.grb_laws.specs.Laws.{IsDistributive, semiring_of, PredefinedProductsGroup, MinPlusDoesNotGroup}
use Rattle.grb_laws.proofs.Grouping.{distributive_products_group}

-- of one operator over another, of bools and of numbers, by what it does on one side
over_bools : (p o : BinaryOp) → ((a b c : Bool) → on_bools o a (on_bools p b c) ≡ on_bools p (on_bools o a b) (on_bools o a c))
    → (x y z : Value) → IsValueOf domain.Bool x → IsValueOf domain.Bool y → IsValueOf domain.Bool z → value_of_op o x (value_of_op p y z) ≡ value_of_op p (value_of_op o x y) (value_of_op o x z)
over_bools p o law (value.Bool a) (value.Bool b) (value.Bool c) f g h = ap (λ x. value.Bool x) (law a b c)
over_bools p o law (value.Uint64 a) y z f g h = absurd f
over_bools p o law (value.Bool a) (value.Uint64 b) z f g h = absurd g
over_bools p o law (value.Bool a) (value.Bool b) (value.Uint64 c) f g h = absurd h

over_numbers : (p o : BinaryOp) → ((a b c : ℕ) → on_numbers o a (on_numbers p b c) ≡ on_numbers p (on_numbers o a b) (on_numbers o a c))
    → (x y z : Value) → IsValueOf domain.Uint64 x → IsValueOf domain.Uint64 y → IsValueOf domain.Uint64 z → value_of_op o x (value_of_op p y z) ≡ value_of_op p (value_of_op o x y) (value_of_op o x z)
over_numbers p o law (value.Uint64 a) (value.Uint64 b) (value.Uint64 c) f g h = ap (λ x. value.Uint64 x) (law a b c)
over_numbers p o law (value.Bool a) y z f g h = absurd f
over_numbers p o law (value.Uint64 a) (value.Bool b) z f g h = absurd g
over_numbers p o law (value.Uint64 a) (value.Uint64 b) (value.Bool c) f g h = absurd h

-- a monoid times another, both of one domain: one side is enough, since the second commutes
module _ (m t : Monoid) (one_domain : monoid_domain m ≡ monoid_domain t) where
  abbrev Is : Value → Type 0
  Is = IsValueOf (monoid_domain t)

  abbrev plus : Value → Value → Value
  plus = value_of_op (monoid_op m)

  abbrev times : Value → Value → Value
  times = value_of_op (monoid_op t)

  sum_is : (x y : Value) → Is x → Is y → Is (plus x y)
  sum_is = subst (λ d. (x y : Value) → IsValueOf d x → IsValueOf d y → IsValueOf d (plus x y)) one_domain (monoid_laws m).closed

  by_monoids : ((x y z : Value) → Is x → Is y → Is z → times x (plus y z) ≡ plus (times x y) (times x z)) → IsDistributive Is plus times
  by_monoids law =
      let laws = monoid_laws t in
      record {
        associative = laws.associative;
        from_left = law;
        from_right = λ x y z f g h.
            laws.commutative (plus x y) z (sum_is x y f g) h
            ∙ law z x y h f g
            ∙ ap (λ w. plus w (times z y)) (laws.commutative z x h f)
            ∙ ap (plus (times x z)) (laws.commutative z y h g);
      }

-- First and Second of numbers, over a monoid of which a number twice is itself
module _ (p : BinaryOp) (twice : (a : ℕ) → a ≡ on_numbers p a a) where
  by_first : IsDistributive (IsValueOf domain.Uint64) (value_of_op p) (value_of_op op.First)
  by_first = record { associative = associative; from_left = over_numbers p op.First (λ a b c. twice a); from_right = from_right }
    where
      associative : (x y z : Value) → IsValueOf domain.Uint64 x → IsValueOf domain.Uint64 y → IsValueOf domain.Uint64 z
          → value_of_op op.First (value_of_op op.First x y) z ≡ value_of_op op.First x (value_of_op op.First y z)
      associative (value.Uint64 a) (value.Uint64 b) (value.Uint64 c) f g h = refl
      associative (value.Bool a) y z f g h = absurd f
      associative (value.Uint64 a) (value.Bool b) z f g h = absurd g
      associative (value.Uint64 a) (value.Uint64 b) (value.Bool c) f g h = absurd h

      from_right : (x y z : Value) → IsValueOf domain.Uint64 x → IsValueOf domain.Uint64 y → IsValueOf domain.Uint64 z
          → value_of_op op.First (value_of_op p x y) z ≡ value_of_op p (value_of_op op.First x z) (value_of_op op.First y z)
      from_right (value.Uint64 a) (value.Uint64 b) (value.Uint64 c) f g h = refl
      from_right (value.Bool a) y z f g h = absurd f
      from_right (value.Uint64 a) (value.Bool b) z f g h = absurd g
      from_right (value.Uint64 a) (value.Uint64 b) (value.Bool c) f g h = absurd h

  by_second : IsDistributive (IsValueOf domain.Uint64) (value_of_op p) (value_of_op op.Second)
  by_second = record { associative = associative; from_left = over_numbers p op.Second (λ a b c. refl); from_right = from_right }
    where
      associative : (x y z : Value) → IsValueOf domain.Uint64 x → IsValueOf domain.Uint64 y → IsValueOf domain.Uint64 z
          → value_of_op op.Second (value_of_op op.Second x y) z ≡ value_of_op op.Second x (value_of_op op.Second y z)
      associative (value.Uint64 a) (value.Uint64 b) (value.Uint64 c) f g h = refl
      associative (value.Bool a) y z f g h = absurd f
      associative (value.Uint64 a) (value.Bool b) z f g h = absurd g
      associative (value.Uint64 a) (value.Uint64 b) (value.Bool c) f g h = absurd h

      from_right : (x y z : Value) → IsValueOf domain.Uint64 x → IsValueOf domain.Uint64 y → IsValueOf domain.Uint64 z
          → value_of_op op.Second (value_of_op p x y) z ≡ value_of_op p (value_of_op op.Second x z) (value_of_op op.Second y z)
      from_right (value.Uint64 a) (value.Uint64 b) (value.Uint64 c) f g h = ap (λ x. value.Uint64 x) (twice c)
      from_right (value.Bool a) y z f g h = absurd f
      from_right (value.Uint64 a) (value.Bool b) z f g h = absurd g
      from_right (value.Uint64 a) (value.Uint64 b) (value.Bool c) f g h = absurd h

lor_land : (a b c : Bool) → on_bools op.Land a (on_bools op.Lor b c) ≡ on_bools op.Lor (on_bools op.Land a b) (on_bools op.Land a c)
lor_land true b c = refl
lor_land false b c = refl

land_lor : (a b c : Bool) → on_bools op.Lor a (on_bools op.Land b c) ≡ on_bools op.Land (on_bools op.Lor a b) (on_bools op.Lor a c)
land_lor true b c = refl
land_lor false b c = refl

lxor_land : (a b c : Bool) → on_bools op.Land a (on_bools op.Lxor b c) ≡ on_bools op.Lxor (on_bools op.Land a b) (on_bools op.Land a c)
lxor_land true b c = refl
lxor_land false b c = refl

lxnor_lor : (a b c : Bool) → on_bools op.Lor a (on_bools op.Lxnor b c) ≡ on_bools op.Lxnor (on_bools op.Lor a b) (on_bools op.Lor a c)
lxnor_lor true b c = refl
lxnor_lor false b c = refl

-- a sum times a number, to any modulus
product_of_sum : (m a b c : ℕ) → (a * ((b + c) % m)) % m ≡ ((a * b) % m + (a * c) % m) % m
product_of_sum m a b c =
    mul-mod_second a (b + c) m ∙ ap (λ x. x % m) (mul-add a b c) ∙ sym (mod-add-mod (a * b) m ((a * c) % m) ∙ add-mod-mod (a * b) (a * c) m)

pub predefined_products_group : PredefinedProductsGroup
predefined_products_group =
    record {
      plus_times = distributive_products_group (semiring_of monoid.Plus op.Times) (refl, by_monoids monoid.Plus monoid.Times refl (over_numbers op.Plus op.Times (product_of_sum (2 ^ 64))));
      min_max = distributive_products_group (semiring_of monoid.Min op.Max) (refl, by_monoids monoid.Min monoid.Max refl (over_numbers op.Min op.Max (λ a b c. omega arith)));
      max_min = distributive_products_group (semiring_of monoid.Max op.Min) (refl, by_monoids monoid.Max monoid.Min refl (over_numbers op.Max op.Min (λ a b c. omega arith)));
      min_first = distributive_products_group (semiring_of monoid.Min op.First) (refl, by_first op.Min (λ a. omega arith));
      min_second = distributive_products_group (semiring_of monoid.Min op.Second) (refl, by_second op.Min (λ a. omega arith));
      max_first = distributive_products_group (semiring_of monoid.Max op.First) (refl, by_first op.Max (λ a. omega arith));
      max_second = distributive_products_group (semiring_of monoid.Max op.Second) (refl, by_second op.Max (λ a. omega arith));
      lor_land = distributive_products_group (semiring_of monoid.Lor op.Land) (refl, by_monoids monoid.Lor monoid.Land refl (over_bools op.Lor op.Land lor_land));
      land_lor = distributive_products_group (semiring_of monoid.Land op.Lor) (refl, by_monoids monoid.Land monoid.Lor refl (over_bools op.Land op.Lor land_lor));
      lxor_land = distributive_products_group (semiring_of monoid.Lxor op.Land) (refl, by_monoids monoid.Lxor monoid.Land refl (over_bools op.Lxor op.Land lxor_land));
      lxnor_lor = distributive_products_group (semiring_of monoid.Lxnor op.Lor) (refl, by_monoids monoid.Lxnor monoid.Lor refl (over_bools op.Lxnor op.Lor lxnor_lor));
    }

-- one matrix of one cell, one of one row and one of one column: 1 + min(2^64 - 1, 0) is 1, and min(1 + (2^64 - 1), 1 + 0) is 0
abbrev number : ℕ → Value
number n = value.Uint64 n

abbrev cell : MatrixEntries
cell = ((0, 0), number 1) ∷ []

abbrev row : MatrixEntries
row = ((0, 0), number (2 ^ 64 - 1)) ∷ ((0, 1), number 0) ∷ []

abbrev column : MatrixEntries
column = ((0, 0), number 0) ∷ ((1, 0), number 0) ∷ []

abbrev number_of : Value → ℕ
number_of (value.Uint64 n) = n
number_of (value.Bool b) = 0

abbrev first_number : MatrixEntries → ℕ
first_number [] = 0
first_number (e ∷ m) = number_of e.1

abbrev is_number : Cell × Value → Type 0
is_number e = IsValueOf domain.Uint64 e.1

pub min_plus_does_not_group : MinPlusDoesNotGroup
min_plus_does_not_group group =
    differ (group cell row column (All-from_recursion is_number cell (lit< tt, tt)) (All-from_recursion is_number row (lit< tt, (lit< tt, tt))) (All-from_recursion is_number column (lit< tt, (lit< tt, tt))))
  where
    differ : ◌≡◌ {A = MatrixEntries} (((0, 0), number 0) ∷ []) (((0, 0), number 1) ∷ []) → ⊥
    differ e = let same : ◌≡◌ {A = ℕ} 0 1 = ap first_number e in omega (arith, same)
