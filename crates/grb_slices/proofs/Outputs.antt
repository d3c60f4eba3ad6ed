-- The output of a call: it is the target of the call, and one of the objects that the call names.
use Rattle.std.proofs.Common.{◌≡◌, true, List, sym, subst, Some}
use Rattle.grb_slices.proofs.Prelude.{Call, Object, operands, output_of, ObjectShapes, target_of, is_among}
use Rattle.grb_call.specs.declared.call.Call.TheVariants as call
use Rattle.grb_call.proofs.Outputs.{output-first}
use Rattle.grb_slices.proofs.Wants.{among_first}

-- a call names its output
pub output_among : (c : Call) (o : Object) → output_of c ≡ Some o → is_among (operands c) o ≡ true
output_among c o e = let first = output-first c o e in subst (λ (os : List Object). is_among os o ≡ true) (sym first.1) (among_first o first.0)

-- a call with an output has it as its target
pub output_target : (s : ObjectShapes) (c : Call) (o : Object) → output_of c ≡ Some o → target_of s c ≡ Some o
output_target s (call.NewMatrix domain nrows ncols) o e = cc
output_target s (call.NewVector domain size) o e = cc
output_target s (call.DupMatrix a) o e = cc
output_target s (call.DupVector v) o e = cc
output_target s (call.Diag v diagonal) o e = cc
output_target s _ o e = e
