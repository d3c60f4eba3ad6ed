-- inside: no public contract names it. Operators that take their arguments the other way around (own).
use Rattle.std.specs.Prelude.{◌≡◌, Option, Some, None}
use Rattle.grb_core.specs.declared.operator.BinaryOp.{BinaryOp}
use Rattle.grb_core.specs.declared.operator.BinaryOp.TheVariants as op
use Rattle.grb_core.specs.declared.value.Value.{Value}
use Rattle.grb_core.specs.Value.{IsValueOf}
use Rattle.grb_core.specs.Operator.{op_domain, value_of_op}

-- of two values of its domain the one makes what the other makes of them in the other order
pub record IsExchanged (other first : BinaryOp) : Type 0 where
  pub domain : op_domain other ≡ op_domain first
  pub value : (x y : Value) → IsValueOf (op_domain first) x → IsValueOf (op_domain first) y → value_of_op other x y ≡ value_of_op first y x

-- the operator that does so, if there is one: itself, where it commutes
abbrev pub exchanged_op : BinaryOp → Option BinaryOp
exchanged_op op.Minus = None
exchanged_op op.FirstBool = Some op.SecondBool
exchanged_op op.SecondBool = Some op.FirstBool
exchanged_op op.First = Some op.Second
exchanged_op op.Second = Some op.First
exchanged_op op.Lor = Some op.Lor
exchanged_op op.Land = Some op.Land
exchanged_op op.Lxor = Some op.Lxor
exchanged_op op.Lxnor = Some op.Lxnor
exchanged_op op.Plus = Some op.Plus
exchanged_op op.Times = Some op.Times
exchanged_op op.Min = Some op.Min
exchanged_op op.Max = Some op.Max
