-- believed: How many calls a pass has settled (own; `GrB_MATERIALIZE` of GraphBLAS C API 2.0): those that it knew when it last had
-- all objects materialized; and which object a wait for it left ready (`GrB_COMPLETE`).
use Rattle.std.specs.Prelude.{◌≡◌, ◌<◌, ℕ, Bool, true, false, if◌then◌else◌, is_some, length, IfSome, Option, Some, None, Result, Ok, Err}
use Rattle.grb_core.specs.declared.refusal.Refusal.{Refusal}
use Rattle.grb_call.specs.declared.call.Call.{Call}
use Rattle.grb_call.specs.declared.call.Call.TheVariants as call
use Rattle.grb_call.specs.declared.class.Class.{Class}
use Rattle.grb_call.specs.declared.class.Class.TheVariants.{Reads}
use Rattle.grb_call.specs.declared.class.Extent.TheVariants as extent
use Rattle.grb_call.specs.declared.wait_mode.WaitMode.TheVariants.{Complete}
use Rattle.grb_call.specs.declared.ids.MatrixId.{MatrixId}
use Rattle.grb_call.specs.declared.ids.Object.{Object}
use Rattle.grb_call.specs.declared.ids.Object.TheVariants as object
use Rattle.grb_call.specs.declared.ids.VectorId.{VectorId}
use Rattle.grb_call.specs.declared.reply.Reply.{Reply}
use Rattle.grb_call.specs.History.{store_of}
use Rattle.grb_call.specs.Kinds.{class_of}
use Rattle.grb_call.specs.Store.{matrix_at, vector_at}
use Rattle.grb_reader.specs.Known.{Knowing, known}

-- whether a call of this class is about all objects
abbrev pub reads_all : Class → Bool
reads_all (Reads extent.Object) = false
reads_all (Reads extent.All) = true
reads_all _ = false

-- whether the call waits for all objects
abbrev pub is_materialize : Call → Bool
is_materialize c = reads_all (class_of c)

-- how many calls are settled after a call that is answered, where so many are known after it, and so many were settled before
abbrev pub settled_by : Call → ℕ → ℕ → ℕ
settled_by c known settled = if is_materialize c then known else settled

-- how many calls are settled after a call with this answer
abbrev pub settled_after : Call → Result Reply Refusal → ℕ → ℕ → ℕ
settled_after c (Ok reply) known settled = settled_by c known settled
settled_after c (Err refusal) known settled = settled

-- where the object is there, not all calls that the pass knows are settled
abbrev pub IsUnsettledMatrix : Knowing → MatrixId → Type 0
IsUnsettledMatrix p a = is_some (matrix_at (store_of (known p)) a) ≡ true → p.settled < length (known p)

abbrev pub IsUnsettledVector : Knowing → VectorId → Type 0
IsUnsettledVector p v = is_some (vector_at (store_of (known p)) v) ≡ true → p.settled < length (known p)

-- the pass's last call left the object ready, after all calls that it knows
abbrev pub IsLeftReady : Knowing → Object → Type 0
IsLeftReady p o = p.made.ready ≡ Some (o, length (known p))

-- the object that a call waits for, where it waits for one alone
abbrev pub waited_for : Call → Option Object
waited_for (call.WaitMatrix a Complete) = Some (object.Matrix a)
waited_for (call.WaitVector v Complete) = Some (object.Vector v)
waited_for _ = None

-- the object that the call waits for was left ready
abbrev pub LeavesReady : Knowing → Call → Type 0
LeavesReady p c = IfSome (waited_for c) (IsLeftReady p)

-- the object need not lie ready: it was not left so, and where it is there, not all calls that the pass knows are settled
abbrev pub MayLackMatrix : Knowing → MatrixId → Type 0
MayLackMatrix p a = IsUnsettledMatrix p a × (IsLeftReady p (object.Matrix a) → ⊥)

abbrev pub MayLackVector : Knowing → VectorId → Type 0
MayLackVector p v = IsUnsettledVector p v × (IsLeftReady p (object.Vector v) → ⊥)
