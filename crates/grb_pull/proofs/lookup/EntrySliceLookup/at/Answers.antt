use Rattle.std.proofs.Common.{ap, sym, ◌∙◌}
use Rattle.std.specs.Prelude.{Some}
use Rattle.grb_push.proofs.Searching.{find-at, find-nowhere, lent_rise}
use Rattle.grb_pull.proofs.lookup.EntrySliceLookup.at.Goals as goal

pub place_of-requires : goal.place_of-requires
place_of-requires g c = lent_rise g.T.Scalar.value c.args.self.now.indices.now c.args.self.now.values.now c.args.self.now.same c.args.self.now.rising

pub returns-in-Some : goal.returns-in-Some
returns-in-Some g c =
    let tv = g.T.Scalar.value in
    let entries = c.args.self.now in
    ap (λ v. Some (tv v)) (sym c.index-self-at.is)
    ∙ sym (find-at tv entries.indices.now entries.values.now c.in-Some.at c.args.index c.index-self-at.result entries.rising c.in-Some.ensures.found.0 entries.same c.in-Some.ensures.found.1 c.index-self-at.is)

pub returns-in-None : goal.returns-in-None
returns-in-None g c = sym (find-nowhere g.T.Scalar.value c.args.index c.args.self.now.indices.now c.args.self.now.values.now c.in-None.ensures.absent)
