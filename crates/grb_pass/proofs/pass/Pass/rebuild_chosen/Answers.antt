use Rattle.std.proofs.Common.{IfErr, subst}
use Rattle.grb_call.specs.History.{store_of}
use Rattle.grb_pass.specs.Chosen.{IsNoSuccessor, NamesChosen, chosen_store}
use Rattle.grb_reader.specs.Known.{Knowing, known}
use Rattle.grb_pass.proofs.pass.Pass.rebuild_chosen.Goals as goal

pub returns-clause-refused : goal.returns-clause-refused
returns-clause-refused g c =
    subst (λ (p : Knowing). IfErr c.rebuild_chosen-rebuild.result (IsNoSuccessor c.args.room c.args.passes (chosen_store (store_of (known p)) c.args.matrices.now c.args.vectors.now)))
    c.self.view_is c.rebuild_chosen-rebuild.ensures.refused
