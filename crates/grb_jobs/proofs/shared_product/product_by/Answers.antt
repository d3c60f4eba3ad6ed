use Rattle.std.proofs.Common.{◌≡◌, true, ap, ◌∙◌, refl}
use Rattle.std.specs.Prelude.{Option}
use Rattle.grb_core.specs.Entries.{MatrixEntries}
use Rattle.grb_ewise.proofs.WholeMatrix.{same_matrix}
use Rattle.grb_mxm.specs.Rows.{selected_product}
use Rattle.grb_jobs.proofs.Lent.{of_lent}
use Rattle.grb_jobs.proofs.shared_product.product_by.Goals as goal

pub bounding_lists-bound-requires : goal.bounding_lists-bound-requires
bounding_lists-bound-requires c = record { assembled = of_lent (λ m. m.now) (λ m. m.assembled ≡ true) c.args.mask c.requires.mask_assembled }

pub product-requires-2-clause-mask_in_range : goal.product-requires-2-clause-mask_in_range
product-requires-2-clause-mask_in_range c =
    c.bounding_lists-bound.ensures.in_range c.args.b.now.matrix.ncols (of_lent (λ m. m.now) (λ m. m.matrix.ncols ≡ c.args.b.now.matrix.ncols) c.args.mask c.requires.mask_columns)

pub returns-clause-matrix : goal.returns-clause-matrix
returns-clause-matrix c =
    c.in_ok-alone.ensures.matrix
    ∙ same_matrix _ _ _ _ _ _ _ _ refl refl refl (ap (λ (m : Option MatrixEntries). selected_product c.args.semiring c.args.structure m c.args.a.now.matrix.entries c.args.b.now.matrix.entries) c.bounding_lists-bound.ensures.entries)
