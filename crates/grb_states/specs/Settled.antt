-- believed: What a reading call asks of the objects before it is answered (own; `GrB_wait` of GraphBLAS C API 2.0). A wait alone asks for
-- something: a get, a count and a total read changes where they wait.
use Rattle.std.specs.Prelude.{◌≡◌, Bool, true, false}
use Rattle.grb_call.specs.declared.call.Call.{Call}
use Rattle.grb_call.specs.declared.call.Call.TheVariants as call
use Rattle.grb_call.specs.declared.wait_mode.WaitMode.{WaitMode}
use Rattle.grb_call.specs.declared.wait_mode.WaitMode.TheVariants.{Complete, Materialize}
use Rattle.grb_call.specs.declared.ids.Object.{Object}
use Rattle.grb_call.specs.declared.ids.Object.TheVariants.{Matrix, Vector}

-- no change waits in any object
abbrev pub AreAllAssembled : (Object → Bool) → Type 0
AreAllAssembled assembled = (o : Object) → assembled o ≡ true

-- no change waits in the object, or, where all objects were waited for, in any
abbrev pub HasWaited : (Object → Bool) → Object → WaitMode → Type 0
HasWaited assembled o Complete = assembled o ≡ true
HasWaited assembled o Materialize = AreAllAssembled assembled

-- no change waits in what the call waits for
abbrev pub IsSettled : (Object → Bool) → Call → Type 0
IsSettled assembled (call.WaitMatrix a mode) = HasWaited assembled (Matrix a) mode
IsSettled assembled (call.WaitVector v mode) = HasWaited assembled (Vector v) mode
IsSettled assembled _ = Unit {0}

-- whether the call asks for that of any object
abbrev pub settles : Call → Bool
settles (call.WaitMatrix a mode) = true
settles (call.WaitVector v mode) = true
settles _ = false
