use Rattle.std.proofs.Common.{ap, ◌∙◌}
use Rattle.grb_call.specs.Store.{Store, empty_store}
use Rattle.grb_call.specs.History.{after_all}
use Rattle.grb_call.proofs.Runs.{after_all-append}
use Rattle.grb_rebuild.specs.Rebuilt.{rebuilt}
use Rattle.grb_rebuild.proofs.Rebuilding.{rebuild_leaves_the_store}
use Rattle.grb_rebuild.proofs.laws.a_history_goes_on.Goals as goal

pub returns : goal.returns
returns c = λ s more whole. after_all-append empty_store (rebuilt s) more ∙ ap (λ (t : Store). after_all t more) (rebuild_leaves_the_store s whole)
