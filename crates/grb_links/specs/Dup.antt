-- believed: Which calls make an object that is equal to another (own).
use Rattle.std.specs.Prelude.{Bool, true, false}
use Rattle.grb_call.specs.declared.call.Call.{Call}
use Rattle.grb_call.specs.declared.call.Call.TheVariants as call

-- the call makes an object that is equal to another
abbrev pub is_dup : Call → Bool
is_dup (call.DupMatrix a) = true
is_dup (call.DupVector v) = true
is_dup _ = false
