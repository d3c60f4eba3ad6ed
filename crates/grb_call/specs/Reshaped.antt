-- inside: no public contract names it. Which calls change a shape where they are not refused.
use Rattle.std.specs.Prelude.{Bool, true, false}
use Rattle.grb_call.specs.declared.call.Call.{Call}
use Rattle.grb_call.specs.declared.call.Call.TheVariants as call

-- whether the call makes an object, ends one or gives one new dimensions
abbrev pub changes_shapes : Call → Bool
changes_shapes (call.NewMatrix domain nrows ncols) = true
changes_shapes (call.NewVector domain size) = true
changes_shapes (call.FreeMatrix a) = true
changes_shapes (call.FreeVector v) = true
changes_shapes (call.ResizeMatrix a nrows ncols) = true
changes_shapes (call.ResizeVector v size) = true
changes_shapes (call.DupMatrix a) = true
changes_shapes (call.DupVector v) = true
changes_shapes (call.Diag v diagonal) = true
changes_shapes _ = false
