use Rattle.grb_pass.proofs.Opening.{all_ours, all_blank}
use Rattle.grb_pass.proofs.shared.Shared.open_with.Goals as goal

pub returns-clause-ours : goal.returns-clause-ours
returns-clause-ours g c = all_ours _ c.args.passes _ c.in_ok-opened.ensures

pub returns-clause-statuses : goal.returns-clause-statuses
returns-clause-statuses g c = all_blank _ c.args.passes _ c.in_ok-opened.ensures
