use Rattle.grb_context.proofs.Waited.{left_matrix}
use Rattle.grb_context.proofs.context.Context.snapshot_matrix.Goals as goal

pub unreachable-requires : goal.unreachable-requires
unreachable-requires c =
    c.in-None.ensures.1 (left_matrix c.args.self.now c.args.pass.now c.wait_matrix.new.pass c.args.a c.wait_matrix.result c.in_ok-wait_matrix.field-0 c.in_ok-wait_matrix.was c.wait_matrix.ensures.answered)
