use Rattle.std.proofs.Common.{refl, sym, subst, ◌∙◌}
use Rattle.std.specs.Option.{option_map}
use Rattle.grb_core.specs.Contents.{IsMatrix}
use Rattle.grb_mxm.specs.Rows.{selected_product}
use Rattle.grb_mxm.proofs.WholeProduct.{product_whole}
use Rattle.grb_jobs.specs.Blocks.{Product, whole_of}
use Rattle.grb_jobs.proofs.inputs.Inputs.dims.Goals as goal

pub returns-clause-whole : goal.returns-clause-whole
returns-clause-whole c =
    let i = c.self.inside in
    let fits = c.self.invariant in
    let a = i.first.matrix in
    let b = i.second.matrix in
    let mask = option_map (λ m. m.matrix.entries) i.mask in
    subst (λ (p : Product). IsMatrix (whole_of p)) c.self.view_is
    (product_whole i.semiring i.structure mask a.domain a.nrows b.ncols a b a.entries b.entries (selected_product i.semiring i.structure mask a.entries b.entries) fits.first_fits.domain fits.first_fits.domain refl refl refl refl refl
    c.dims-nrows.ensures.whole c.dims-inner.ensures.whole (sym c.domain-domain.ensures.monoid ∙ c.domain-domain.ensures.op) fits.second_fits.domain fits.first_fits.columns)
