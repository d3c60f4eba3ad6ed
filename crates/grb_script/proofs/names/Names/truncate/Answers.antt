use Rattle.std.proofs.Common.{sym, ap, ◌∙◌, take}
use Rattle.grb_script.proofs.Prelude.{take-map}
use Rattle.grb_script.proofs.names.Names.truncate.Goals as goal

pub returns : goal.returns
returns c = rw c.truncate.ensures.entries (sym (take-map _ c.args.count _) ∙ ap (take c.args.count) c.self.view_is)
