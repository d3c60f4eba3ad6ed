use Rattle.grb_pass.proofs.Agreeing.{histories}
use Rattle.grb_context.proofs.laws.histories_agree.Goals as goal

pub returns : goal.returns
returns c = histories c.seats_agree.ensures
