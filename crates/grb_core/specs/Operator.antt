-- believed: Operators: GraphBLAS C API 2.0, "Binary operators", and its table of predefined ones. Arithmetic modulo 2^64 is that of
-- C's unsigned numbers (own).
use Rattle.std.specs.Prelude.{ℕ, ◌+◌, ◌-◌, ◌*◌, ◌%◌, ◌^◌, min, max, Bool, not, ◌&&◌, ◌||◌}
use Rattle.std.specs.Bool.{beq}
use Rattle.grb_core.specs.declared.domain.Domain.{Domain}
use Rattle.grb_core.specs.declared.domain.Domain.TheVariants as domain
use Rattle.grb_core.specs.declared.value.Value.{Value}
use Rattle.grb_core.specs.declared.value.Value.TheVariants as value
use Rattle.grb_core.specs.declared.operator.BinaryOp.{BinaryOp}
use Rattle.grb_core.specs.declared.operator.BinaryOp.TheVariants as op

-- the domain of both arguments and of the result
abbrev pub op_domain : BinaryOp → Domain
op_domain op.Lor = domain.Bool
op_domain op.Land = domain.Bool
op_domain op.Lxor = domain.Bool
op_domain op.Lxnor = domain.Bool
op_domain op.FirstBool = domain.Bool
op_domain op.SecondBool = domain.Bool
op_domain op.Plus = domain.Uint64
op_domain op.Times = domain.Uint64
op_domain op.Min = domain.Uint64
op_domain op.Max = domain.Uint64
op_domain op.Minus = domain.Uint64
op_domain op.First = domain.Uint64
op_domain op.Second = domain.Uint64

-- the value of a logical operator
abbrev pub on_bools : BinaryOp → Bool → Bool → Bool
on_bools op.Lor a b = a || b
on_bools op.Land a b = a && b
on_bools op.Lxor a b = not (beq a b)
on_bools op.Lxnor a b = beq a b
on_bools op.SecondBool a b = b
on_bools _ a b = a

-- the value of an operator on whole numbers, modulo 2^64
abbrev pub on_numbers : BinaryOp → ℕ → ℕ → ℕ
on_numbers op.Plus a b = (a + b) % 2 ^ 64
on_numbers op.Times a b = (a * b) % 2 ^ 64
on_numbers op.Minus a b = (a + 2 ^ 64 - b) % 2 ^ 64
on_numbers op.Min a b = min a b
on_numbers op.Max a b = max a b
on_numbers op.Second a b = b
on_numbers _ a b = a

-- op(a, b). It is only asked of two values of the operator's domain
abbrev pub value_of_op : BinaryOp → Value → Value → Value
value_of_op o (value.Bool a) (value.Bool b) = value.Bool (on_bools o a b)
value_of_op o (value.Uint64 a) (value.Uint64 b) = value.Uint64 (on_numbers o a b)
value_of_op o a b = a
