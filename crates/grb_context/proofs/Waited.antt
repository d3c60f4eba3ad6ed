-- An answered wait for one object leaves that ready.
use Rattle.std.proofs.Common.{◌≡◌, subst}
use Rattle.std.specs.Prelude.{Ok}
use Rattle.grb_call.specs.declared.call.Call.TheVariants as call
use Rattle.grb_call.specs.declared.wait_mode.WaitMode.TheVariants.{Complete}
use Rattle.grb_call.specs.declared.ids.MatrixId.{MatrixId}
use Rattle.grb_call.specs.declared.ids.VectorId.{VectorId}
use Rattle.grb_call.specs.declared.ids.Object.TheVariants as object
use Rattle.grb_call.specs.declared.reply.Reply.{Reply}
use Rattle.grb_pass.specs.Answered.{Answered}
use Rattle.grb_pass.specs.Explains.{Answer}
use Rattle.grb_pass.specs.Known.{Shared, Knowing}
use Rattle.grb_pass.specs.Settled.{IsLeftReady}
use Rattle.grb_pass.proofs.Promised.{promise}

pub left_matrix : (context : Shared) (old new : Knowing) (a : MatrixId) (r : Answer) (reply : Reply) → r ≡ Ok reply → Answered context old new (call.WaitMatrix a Complete) r → IsLeftReady new (object.Matrix a)
left_matrix context old new a r reply is made =
    (promise context old new (call.WaitMatrix a Complete) (Ok reply) (subst (Answered context old new (call.WaitMatrix a Complete)) is made)).ready

pub left_vector : (context : Shared) (old new : Knowing) (v : VectorId) (r : Answer) (reply : Reply) → r ≡ Ok reply → Answered context old new (call.WaitVector v Complete) r → IsLeftReady new (object.Vector v)
left_vector context old new v r reply is made =
    (promise context old new (call.WaitVector v Complete) (Ok reply) (subst (Answered context old new (call.WaitVector v Complete)) is made)).ready
