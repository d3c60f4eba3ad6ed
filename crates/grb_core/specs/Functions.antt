-- believed: Functions of one value, as apply takes them: GraphBLAS C API 2.0, "Unary operators", its table of predefined ones, and "apply"
-- with a bound scalar. That arithmetic is modulo 2^64, and that a bound value is not cast, is own.
use Rattle.std.specs.Prelude.{◌≡◌, ◌-◌, ◌%◌, ◌^◌, Bool, not}
use Rattle.grb_core.specs.declared.domain.Domain.{Domain}
use Rattle.grb_core.specs.declared.domain.Domain.TheVariants as domain
use Rattle.grb_core.specs.declared.value.Value.{Value}
use Rattle.grb_core.specs.declared.value.Value.TheVariants as value
use Rattle.grb_core.specs.Value.{IsValueOf, value_domain}
use Rattle.grb_core.specs.Operator.{op_domain, value_of_op}
use Rattle.grb_core.specs.declared.functions.UnaryOp.{UnaryOp}
use Rattle.grb_core.specs.declared.functions.UnaryOp.TheVariants as unary
use Rattle.grb_core.specs.declared.functions.Function.{Function}
use Rattle.grb_core.specs.declared.functions.Function.TheVariants as function

-- the domain of argument and result
abbrev pub unary_domain : UnaryOp → Domain
unary_domain unary.Identity = domain.Uint64
unary_domain unary.IdentityBool = domain.Bool
unary_domain unary.Ainv = domain.Uint64
unary_domain unary.Bnot = domain.Uint64
unary_domain unary.Lnot = domain.Bool

-- what a unary operator makes of a value: the negative modulo 2^64, the complement of all 64 bits, the negation, or the value itself.
-- It is only asked of a value of the operator's domain
abbrev pub value_of_unary : UnaryOp → Value → Value
value_of_unary unary.Ainv (value.Uint64 n) = value.Uint64 ((2 ^ 64 - n) % 2 ^ 64)
value_of_unary unary.Bnot (value.Uint64 n) = value.Uint64 (2 ^ 64 - 1 - n)
value_of_unary unary.Lnot (value.Bool b) = value.Bool (not b)
value_of_unary _ a = a

-- what a function makes of a value
abbrev pub value_of_function : Function → Value → Value
value_of_function (function.Unary op) a = value_of_unary op a
value_of_function (function.First x op) a = value_of_op op x a
value_of_function (function.Second op x) a = value_of_op op a x

-- all that a function brings is of the domain
abbrev pub IsFunctionOf : Domain → Function → Type 0
IsFunctionOf d (function.Unary op) = unary_domain op ≡ d
IsFunctionOf d (function.First x op) = (value_domain x ≡ d) × (op_domain op ≡ d)
IsFunctionOf d (function.Second op x) = (op_domain op ≡ d) × (value_domain x ≡ d)

-- the value that a function brings, if it brings one, is a value of its domain
abbrev pub BringsItsValue : Function → Type 0
BringsItsValue (function.Unary op) = Unit {0}
BringsItsValue (function.First x op) = IsValueOf (value_domain x) x
BringsItsValue (function.Second op x) = IsValueOf (value_domain x) x

-- whether apply reads its input transposed: the object stands second where the first argument is bound, and first otherwise
abbrev pub turns_input : Function → Bool → Bool → Bool
turns_input (function.First x op) tran tran1 = tran1
turns_input (function.Unary op) tran tran1 = tran
turns_input (function.Second op x) tran tran1 = tran
