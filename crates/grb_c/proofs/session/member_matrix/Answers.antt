use Rattle.grb_call.specs.declared.call.Call.TheVariants as call
use Rattle.grb_call.specs.declared.wait_mode.WaitMode.TheVariants.{Complete}
use Rattle.grb_c.specs.Kinds.{IsMemberMatrix}
use Rattle.grb_c.proofs.HandedOut.{hands_out_by}
use Rattle.grb_c.proofs.session.member_matrix.Goals as goal

pub returns : goal.returns
returns c =
    let s = c.snapshot_matrix.ensures in
    hands_out_by (λ x. x.value) (call.WaitMatrix c.args.a Complete) (λ n x. IsMemberMatrix n c.args.a x) c.snapshot_matrix.result c.args.member.now c.snapshot_matrix.new.self s.snapshot s.matrix
