-- The output of a call: it stands first among the objects that the call names.
use Rattle.std.proofs.Common.{◌≡◌, Bool, true, false, List, [], ◌∷◌, ap, if◌then◌else◌, Option, Some, None, option_map}
use Rattle.std.specs.Option.{option_map_or, option_or}
use Rattle.grb_call.specs.declared.call.Call.{Call}
use Rattle.grb_call.specs.declared.call.Call.TheVariants as call
use Rattle.grb_call.specs.declared.ids.Object.{Object}
use Rattle.grb_call.specs.declared.operation.Operation.{Operation}
use Rattle.grb_call.specs.Kinds.{enters}
use Rattle.grb_call.specs.Operands.{named, operands}
use Rattle.grb_call.specs.Operation.{if_any, operation_inputs, operation_of, operation_objects}
use Rattle.grb_call.specs.Output.{output_of}
use Rattle.grb_call.specs.Status.{object_of}

pub some_object : (o p : Object) → ◌≡◌ {A = Option Object} (Some o) (Some p) → o ≡ p
some_object o p e = cc

-- the output of an operation, and else what a method names
first_by : (q : Option Operation) (n : Option Object) (o : Object) → option_or (option_map (λ x. x.output) q) n ≡ Some o → (rest : List Object) × (option_map_or operation_objects q (if_any n) ≡ o ∷ rest)
first_by (Some x) n o e = (operation_inputs x, ap (λ (p : Object). p ∷ operation_inputs x) (some_object x.output o e))
first_by None (Some p) o e = ([], ap (λ (x : Object). x ∷ []) (some_object p o e))
first_by None None o e = cc

if_entered : (b : Bool) (q : Option Object) (o : Object) → (if b then q else None) ≡ Some o → q ≡ Some o
if_entered true q o e = e
if_entered false q o e = cc

pub output-first : (c : Call) (o : Object) → output_of c ≡ Some o → (rest : List Object) × (operands c ≡ o ∷ rest)
output-first (call.DupMatrix a) o e = cc
output-first (call.DupVector v) o e = cc
output-first (call.Diag v diagonal) o e = cc
output-first c o e = first_by (operation_of c) (named c) o (if_entered (enters c) (object_of c) o e)
