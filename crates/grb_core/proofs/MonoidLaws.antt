-- Each of the eight monoids is one, over the values of its domain.
use Rattle.std.proofs.Common.{◌≡◌, ℕ, ◌+◌, ◌-◌, ◌*◌, ◌%◌, ◌^◌, ◌<◌, Bool, true, false, refl, sym, ap, ◌∙◌, arith, lit<}
use Rattle.std.proofs.Math.Nat.{add-mod-mod, mod-add-mod, mod-eq_of_lt, mul_assoc, mul_comm}
use Rattle.std.proofs.lemmas.Nat.{mul-mod_first, mul-mod_second, mod_below}
use Rattle.grb_core.specs.declared.domain.Domain.TheVariants as domain
use Rattle.grb_core.proofs.Prelude.{Value, BinaryOp, Monoid, IsValueOf, on_bools, on_numbers, value_of_op, monoid_domain, monoid_op, identity_of, IsCommutativeMonoid}
use Rattle.grb_core.specs.declared.value.Value.TheVariants as value
use Rattle.grb_core.specs.declared.operator.BinaryOp.TheVariants as op
use Rattle.grb_core.specs.declared.monoid.Monoid.TheVariants as monoid

abbrev IsBool : Value → Type 0
IsBool = IsValueOf domain.Bool

abbrev IsNumber : Value → Type 0
IsNumber = IsValueOf domain.Uint64

module _ (o : BinaryOp) (i : Bool)
    (associative : (a b c : Bool) → on_bools o (on_bools o a b) c ≡ on_bools o a (on_bools o b c))
    (commutative : (a b : Bool) → on_bools o a b ≡ on_bools o b a)
    (neutral : (a : Bool) → on_bools o i a ≡ a) where
  closed_bool : (a b : Value) → IsBool a → IsBool b → IsBool (value_of_op o a b)
  closed_bool (value.Bool a) (value.Bool b) h k = tt
  closed_bool (value.Uint64 a) b h k = absurd h
  closed_bool (value.Bool a) (value.Uint64 b) h k = absurd k

  associative_bool : (a b c : Value) → IsBool a → IsBool b → IsBool c → value_of_op o (value_of_op o a b) c ≡ value_of_op o a (value_of_op o b c)
  associative_bool (value.Bool a) (value.Bool b) (value.Bool c) h k l = ap (λ x. value.Bool x) (associative a b c)
  associative_bool (value.Uint64 a) b c h k l = absurd h
  associative_bool (value.Bool a) (value.Uint64 b) c h k l = absurd k
  associative_bool (value.Bool a) (value.Bool b) (value.Uint64 c) h k l = absurd l

  commutative_bool : (a b : Value) → IsBool a → IsBool b → value_of_op o a b ≡ value_of_op o b a
  commutative_bool (value.Bool a) (value.Bool b) h k = ap (λ x. value.Bool x) (commutative a b)
  commutative_bool (value.Uint64 a) b h k = absurd h
  commutative_bool (value.Bool a) (value.Uint64 b) h k = absurd k

  neutral_bool : (a : Value) → IsBool a → value_of_op o (value.Bool i) a ≡ a
  neutral_bool (value.Bool a) h = ap (λ x. value.Bool x) (neutral a)
  neutral_bool (value.Uint64 a) h = absurd h

  bool_monoid : IsCommutativeMonoid IsBool (value_of_op o) (value.Bool i)
  bool_monoid = record {
    identity_is = tt;
    closed = closed_bool;
    associative = associative_bool;
    commutative = commutative_bool;
    neutral = neutral_bool;
  }

module _ (o : BinaryOp) (i : ℕ)
    (fits : i < 2 ^ 64)
    (closed : (a b : ℕ) → a < 2 ^ 64 → b < 2 ^ 64 → on_numbers o a b < 2 ^ 64)
    (associative : (a b c : ℕ) → on_numbers o (on_numbers o a b) c ≡ on_numbers o a (on_numbers o b c))
    (commutative : (a b : ℕ) → on_numbers o a b ≡ on_numbers o b a)
    (neutral : (a : ℕ) → a < 2 ^ 64 → on_numbers o i a ≡ a) where
  closed_number : (a b : Value) → IsNumber a → IsNumber b → IsNumber (value_of_op o a b)
  closed_number (value.Uint64 a) (value.Uint64 b) h k = closed a b h k
  closed_number (value.Bool a) b h k = absurd h
  closed_number (value.Uint64 a) (value.Bool b) h k = absurd k

  associative_number : (a b c : Value) → IsNumber a → IsNumber b → IsNumber c → value_of_op o (value_of_op o a b) c ≡ value_of_op o a (value_of_op o b c)
  associative_number (value.Uint64 a) (value.Uint64 b) (value.Uint64 c) h k l = ap (λ x. value.Uint64 x) (associative a b c)
  associative_number (value.Bool a) b c h k l = absurd h
  associative_number (value.Uint64 a) (value.Bool b) c h k l = absurd k
  associative_number (value.Uint64 a) (value.Uint64 b) (value.Bool c) h k l = absurd l

  commutative_number : (a b : Value) → IsNumber a → IsNumber b → value_of_op o a b ≡ value_of_op o b a
  commutative_number (value.Uint64 a) (value.Uint64 b) h k = ap (λ x. value.Uint64 x) (commutative a b)
  commutative_number (value.Bool a) b h k = absurd h
  commutative_number (value.Uint64 a) (value.Bool b) h k = absurd k

  neutral_number : (a : Value) → IsNumber a → value_of_op o (value.Uint64 i) a ≡ a
  neutral_number (value.Uint64 a) h = ap (λ x. value.Uint64 x) (neutral a h)
  neutral_number (value.Bool a) h = absurd h

  number_monoid : IsCommutativeMonoid IsNumber (value_of_op o) (value.Uint64 i)
  number_monoid = record {
    identity_is = fits;
    closed = closed_number;
    associative = associative_number;
    commutative = commutative_number;
    neutral = neutral_number;
  }

-- the truth tables
lor-assoc : (a b c : Bool) → on_bools op.Lor (on_bools op.Lor a b) c ≡ on_bools op.Lor a (on_bools op.Lor b c)
lor-assoc true b c = refl
lor-assoc false b c = refl

lor-comm : (a b : Bool) → on_bools op.Lor a b ≡ on_bools op.Lor b a
lor-comm true true = refl
lor-comm true false = refl
lor-comm false true = refl
lor-comm false false = refl

land-assoc : (a b c : Bool) → on_bools op.Land (on_bools op.Land a b) c ≡ on_bools op.Land a (on_bools op.Land b c)
land-assoc true b c = refl
land-assoc false b c = refl

land-comm : (a b : Bool) → on_bools op.Land a b ≡ on_bools op.Land b a
land-comm true true = refl
land-comm true false = refl
land-comm false true = refl
land-comm false false = refl

lxor-assoc : (a b c : Bool) → on_bools op.Lxor (on_bools op.Lxor a b) c ≡ on_bools op.Lxor a (on_bools op.Lxor b c)
lxor-assoc true true true = refl
lxor-assoc true true false = refl
lxor-assoc true false true = refl
lxor-assoc true false false = refl
lxor-assoc false true true = refl
lxor-assoc false true false = refl
lxor-assoc false false true = refl
lxor-assoc false false false = refl

lxor-comm : (a b : Bool) → on_bools op.Lxor a b ≡ on_bools op.Lxor b a
lxor-comm true true = refl
lxor-comm true false = refl
lxor-comm false true = refl
lxor-comm false false = refl

lxor-zero : (a : Bool) → on_bools op.Lxor false a ≡ a
lxor-zero true = refl
lxor-zero false = refl

lxnor-assoc : (a b c : Bool) → on_bools op.Lxnor (on_bools op.Lxnor a b) c ≡ on_bools op.Lxnor a (on_bools op.Lxnor b c)
lxnor-assoc true true true = refl
lxnor-assoc true true false = refl
lxnor-assoc true false true = refl
lxnor-assoc true false false = refl
lxnor-assoc false true true = refl
lxnor-assoc false true false = refl
lxnor-assoc false false true = refl
lxnor-assoc false false false = refl

lxnor-comm : (a b : Bool) → on_bools op.Lxnor a b ≡ on_bools op.Lxnor b a
lxnor-comm true true = refl
lxnor-comm true false = refl
lxnor-comm false true = refl
lxnor-comm false false = refl

lxnor-one : (a : Bool) → on_bools op.Lxnor true a ≡ a
lxnor-one true = refl
lxnor-one false = refl

-- sums and products to any modulus
sum_assoc : (m a b c : ℕ) → ((a + b) % m + c) % m ≡ (a + (b + c) % m) % m
sum_assoc m a b c = mod-add-mod (a + b) m c ∙ ap (λ x. x % m) (omega arith) ∙ sym (add-mod-mod a (b + c) m)

product_assoc : (m a b c : ℕ) → ((a * b) % m * c) % m ≡ (a * ((b * c) % m)) % m
product_assoc m a b c = mul-mod_first (a * b) c m ∙ ap (λ x. x % m) (mul_assoc a b c) ∙ sym (mul-mod_second a (b * c) m)

one_times : (a : ℕ) → 1 * a ≡ a
one_times a = omega arith

pub monoid_laws : (m : Monoid) → IsCommutativeMonoid (IsValueOf (monoid_domain m)) (value_of_op (monoid_op m)) (identity_of m)
monoid_laws monoid.Lor = bool_monoid op.Lor false lor-assoc lor-comm (λ a. refl)
monoid_laws monoid.Land = bool_monoid op.Land true land-assoc land-comm (λ a. refl)
monoid_laws monoid.Lxor = bool_monoid op.Lxor false lxor-assoc lxor-comm lxor-zero
monoid_laws monoid.Lxnor = bool_monoid op.Lxnor true lxnor-assoc lxnor-comm lxnor-one
monoid_laws monoid.Plus = number_monoid op.Plus 0 (lit< tt) (λ a b h k. mod_below (a + b) (2 ^ 64) (lit< tt)) (sum_assoc (2 ^ 64)) (λ a b. ap (λ x. x % 2 ^ 64) (omega arith)) (λ a h. ap (λ x. x % 2 ^ 64) (omega arith) ∙ mod-eq_of_lt h)
monoid_laws monoid.Times = number_monoid op.Times 1 (lit< tt) (λ a b h k. mod_below (a * b) (2 ^ 64) (lit< tt)) (product_assoc (2 ^ 64)) (λ a b. ap (λ x. x % 2 ^ 64) (mul_comm a b)) (λ a h. ap (λ x. x % 2 ^ 64) (one_times a) ∙ mod-eq_of_lt h)
monoid_laws monoid.Min = number_monoid op.Min (2 ^ 64 - 1) (lit< tt) (λ a b h k. omega arith) (λ a b c. omega arith) (λ a b. omega arith) (λ a h. omega arith)
monoid_laws monoid.Max = number_monoid op.Max 0 (lit< tt) (λ a b h k. omega arith) (λ a b c. omega arith) (λ a b. omega arith) (λ a h. omega arith)
