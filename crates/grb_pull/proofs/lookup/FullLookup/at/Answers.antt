use Rattle.std.proofs.Common.{ap, sym, ◌∙◌}
use Rattle.std.specs.Prelude.{Some}
use Rattle.grb_pull.proofs.Full.{stored-read}
use Rattle.grb_pull.proofs.lookup.FullLookup.at.Goals as goal

pub returns : goal.returns
returns g c =
    let tv = g.T.Scalar.value in
    ap (λ v. Some (tv v)) (sym c.index-self-index.is)
    ∙ sym (stored-read tv c.args.self.now.values.now c.args.index c.index-self-index.result c.requires c.index-self-index.is)
