use Rattle.std.proofs.Common.{ap, sym, ◌∙◌, get_or, false}
use Rattle.grb_kernels.specs.Typed.{kept}
use Rattle.grb_semirings.proofs.Marks.{marked-read}
use Rattle.grb_pull.proofs.lookup.OpenLookup.at.Goals as goal

pub returns : goal.returns
returns g c =
    let tv = g.T.Scalar.value in
    let ms = c.args.self.now.marks.now in
    ap (λ v. kept (tv v) (get_or ms c.args.index false)) (sym c.index-self-at.is)
    ∙ sym (marked-read tv ms c.args.self.now.dense.now c.args.index c.index-self-at.result c.requires c.args.self.now.same c.index-self-at.is)
