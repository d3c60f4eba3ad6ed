use Rattle.grb_context.proofs.Waited.{left_vector}
use Rattle.grb_context.proofs.context.Context.snapshot_vector.Goals as goal

pub unreachable-requires : goal.unreachable-requires
unreachable-requires c =
    c.in-None.ensures.1 (left_vector c.args.self.now c.args.pass.now c.wait_vector.new.pass c.args.v c.wait_vector.result c.in_ok-wait_vector.field-0 c.in_ok-wait_vector.was c.wait_vector.ensures.answered)
