-- believed: The status that a call leaves on its object: GraphBLAS C API 2.0, "Error model", where an object tells of the last
-- method that was called on it. Which object that is, and that a pass keeps the statuses of its own calls, are own.
use Rattle.std.specs.Prelude.{ℕ, ◌==◌, nat_lt, Bool, false, ◌&&◌, if◌then◌else◌, Option, Some, None, Result, Ok, Err}
use Rattle.std.specs.Option.{option_map, option_or}
use Rattle.grb_core.specs.declared.refusal.Info.{Info}
use Rattle.grb_core.specs.declared.refusal.Info.TheVariants as info
use Rattle.grb_core.specs.declared.refusal.Refusal.{Refusal}
use Rattle.grb_call.specs.declared.call.Call.{Call}
use Rattle.grb_call.specs.declared.call.Call.TheVariants as call
use Rattle.grb_call.specs.declared.ids.Object.{Object}
use Rattle.grb_call.specs.declared.ids.Object.TheVariants as object
use Rattle.grb_call.specs.declared.reply.Reply.{Reply}
use Rattle.grb_call.specs.declared.reply.Reply.TheVariants as reply
use Rattle.grb_call.specs.Operation.{operation_of}
use Rattle.grb_call.specs.Operands.{named}

-- the object that a call is about, of those that were made before it: the one that it changes, reads or has changes done of; of an
-- operation its output. A call that makes an object has none
abbrev pub object_of : Call → Option Object
object_of (call.DupMatrix a) = None
object_of (call.DupVector v) = None
object_of (call.Diag v diagonal) = None
object_of c = option_or (option_map (λ o. o.output) (operation_of c)) (named c)

-- the object that an answer says was made
abbrev pub made_by : Result Reply Refusal → Option Object
made_by (Ok (reply.MadeMatrix a)) = Some (object.Matrix a)
made_by (Ok (reply.MadeVector v)) = Some (object.Vector v)
made_by (Ok reply.Done) = None
made_by (Ok (reply.Value value)) = None
made_by (Ok reply.NoValue) = None
made_by (Ok (reply.Count n)) = None
made_by (Ok (reply.Size n)) = None
made_by (Ok (reply.Dims nrows ncols)) = None
made_by (Err refusal) = None

-- the target of a call: its object, and of a new or a dup the one that it made. A new or a dup that is refused has none
abbrev pub target_of : Call → Result Reply Refusal → Option Object
target_of c r = option_or (object_of c) (made_by r)

-- the status that an answer leaves
abbrev pub info_of : Result Reply Refusal → Info
info_of (Ok (reply.MadeMatrix a)) = info.Success
info_of (Ok (reply.MadeVector v)) = info.Success
info_of (Ok reply.Done) = info.Success
info_of (Ok (reply.Value value)) = info.Success
info_of (Ok reply.NoValue) = info.NoValue
info_of (Ok (reply.Count n)) = info.Success
info_of (Ok (reply.Size n)) = info.Success
info_of (Ok (reply.Dims nrows ncols)) = info.Success
info_of (Err refusal) = info.Refused refusal

-- the status of each object, None where there is none
abbrev pub Statuses : Type 0
Statuses = Object → Option Info

abbrev pub is_same_object : Object → Object → Bool
is_same_object (object.Matrix a) (object.Matrix b) = a.0 == b.0
is_same_object (object.Vector v) (object.Vector w) = v.0 == w.0
is_same_object (object.Matrix a) (object.Vector w) = false
is_same_object (object.Vector v) (object.Matrix b) = false

-- the number of the object is below the room
abbrev pub is_below : ℕ → Object → Bool
is_below room (object.Matrix a) = nat_lt a.0 room
is_below room (object.Vector v) = nat_lt v.0 room

-- the statuses with this one on the target, if there is a target and its number is below the room
abbrev pub with_status : ℕ → Option Object → Info → Statuses → Statuses
with_status room None status before x = before x
with_status room (Some target) status before x = if is_below room target && is_same_object target x then Some status else before x

-- the statuses after a call, from its answer and those before it
abbrev pub statuses_after : ℕ → Call → Result Reply Refusal → Statuses → Statuses
statuses_after room c r before = with_status room (target_of c r) (info_of r) before
