-- believed: Monoids: GraphBLAS C API 2.0, "Monoids", and its table of predefined ones. All that are used here are commutative too.
use Rattle.std.specs.Prelude.{◌≡◌, ◌-◌, ◌^◌, true, false}
use Rattle.grb_core.specs.declared.domain.Domain.{Domain}
use Rattle.grb_core.specs.declared.value.Value.{Value}
use Rattle.grb_core.specs.declared.value.Value.TheVariants as value
use Rattle.grb_core.specs.declared.operator.BinaryOp.{BinaryOp}
use Rattle.grb_core.specs.declared.operator.BinaryOp.TheVariants as op
use Rattle.grb_core.specs.declared.monoid.Monoid.{Monoid}
use Rattle.grb_core.specs.declared.monoid.Monoid.TheVariants as monoid
use Rattle.grb_core.specs.Operator.{op_domain}

-- the operator that a monoid is made of
abbrev pub monoid_op : Monoid → BinaryOp
monoid_op monoid.Lor = op.Lor
monoid_op monoid.Land = op.Land
monoid_op monoid.Lxor = op.Lxor
monoid_op monoid.Lxnor = op.Lxnor
monoid_op monoid.Plus = op.Plus
monoid_op monoid.Times = op.Times
monoid_op monoid.Min = op.Min
monoid_op monoid.Max = op.Max

abbrev pub monoid_domain : Monoid → Domain
monoid_domain m = op_domain (monoid_op m)

-- the value that changes no other under the monoid
abbrev pub identity_of : Monoid → Value
identity_of monoid.Lor = value.Bool false
identity_of monoid.Land = value.Bool true
identity_of monoid.Lxor = value.Bool false
identity_of monoid.Lxnor = value.Bool true
identity_of monoid.Plus = value.Uint64 0
identity_of monoid.Times = value.Uint64 1
identity_of monoid.Min = value.Uint64 (2 ^ 64 - 1)
identity_of monoid.Max = value.Uint64 0

-- The operator keeps the values at which `Is` holds, is associative and commutative there, and `identity` changes none of them
pub record IsCommutativeMonoid {V : Type 0} (Is : V → Type 0) (op : V → V → V) (identity : V) : Type 0 where
  pub identity_is : Is identity
  pub closed : (a b : V) → Is a → Is b → Is (op a b)
  pub associative : (a b c : V) → Is a → Is b → Is c → op (op a b) c ≡ op a (op b c)
  pub commutative : (a b : V) → Is a → Is b → op a b ≡ op b a
  pub neutral : (a : V) → Is a → op identity a ≡ a
