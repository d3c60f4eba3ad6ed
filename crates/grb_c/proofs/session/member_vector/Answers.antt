use Rattle.grb_call.specs.declared.call.Call.TheVariants as call
use Rattle.grb_call.specs.declared.wait_mode.WaitMode.TheVariants.{Complete}
use Rattle.grb_c.specs.Kinds.{IsMemberVector}
use Rattle.grb_c.proofs.HandedOut.{hands_out_by}
use Rattle.grb_c.proofs.session.member_vector.Goals as goal

pub returns : goal.returns
returns c =
    let s = c.snapshot_vector.ensures in
    hands_out_by (λ x. x.value) (call.WaitVector c.args.v Complete) (λ n x. IsMemberVector n c.args.v x) c.snapshot_vector.result c.args.member.now c.snapshot_vector.new.self s.snapshot s.vector
