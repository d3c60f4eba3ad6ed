use Rattle.std.proofs.Common.{ap, sym, subst, ◌∙◌}
use Rattle.std.specs.Prelude.{IfSome, All, ◌<◌}
use Rattle.std.specs.Option.{option_map}
use Rattle.grb_core.specs.Entries.{MatrixEntries}
use Rattle.grb_core.specs.Contents.{edited_matrix}
use Rattle.grb_core.specs.Results.{turned}
use Rattle.grb_lists.specs.Cells.{decoded}
use Rattle.grb_mxm.proofs.MaskedProduct.{written-made, made-inside}
use Rattle.grb_mxm.proofs.mxm_product.mxm.Goals as goal

pub product_read-requires-clause-mask_in_range : goal.product_read-requires-clause-mask_in_range
product_read-requires-clause-mask_in_range c =
    subst (λ n. IfSome c.bounding_lists-bound.result (λ m. All (λ e. e.0.1 < n) (decoded m.now.entries))) (sym c.requires.b.columns) (c.bounding_lists-bound.ensures.in_range c.args.output.now.matrix.ncols c.requires.output.mask_columns)

pub write_product-requires-clause-inside : goal.write_product-requires-clause-inside
write_product-requires-clause-inside c =
    made-inside c.args.semiring c.args.descriptor (option_map (λ m. m.now.matrix.entries) c.args.mask) _ (turned c.args.descriptor.tran c.args.a.now.matrix.entries) (turned c.args.descriptor.tran1 c.args.b.now.matrix.entries)
    c.in_ok-computed.computed.matrix.entries (ap (λ x. x.entries) c.in_ok-computed.ensures.matrix) c.bounding_lists-bound.ensures.entries

pub returns-clause-matrix : goal.returns-clause-matrix
returns-clause-matrix c =
    let w = c.args.output.now.matrix in
    c.in_ok-made.ensures.matrix
    ∙ ap (λ (m : MatrixEntries). edited_matrix (λ c. m) w)
    (written-made c.args.semiring c.args.descriptor (option_map (λ m. m.now.matrix.entries) c.args.mask) _ (turned c.args.descriptor.tran c.args.a.now.matrix.entries) (turned c.args.descriptor.tran1 c.args.b.now.matrix.entries)
    c.in_ok-computed.computed.matrix.entries (ap (λ x. x.entries) c.in_ok-computed.ensures.matrix) c.bounding_lists-bound.ensures.entries c.args.accum w.entries)
