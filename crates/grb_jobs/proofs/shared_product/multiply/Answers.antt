use Rattle.std.proofs.Common.{◌≡◌, ℕ, ap, sym, subst, ◌∙◌}
use Rattle.std.specs.Prelude.{IfSome}
use Rattle.std.specs.Option.{option_map}
use Rattle.grb_core.specs.Entries.{MatrixEntries}
use Rattle.grb_core.specs.Contents.{edited_matrix}
use Rattle.grb_core.specs.Results.{turned}
use Rattle.grb_mxm.proofs.MaskedProduct.{written-made, made-inside}
use Rattle.grb_jobs.proofs.shared_product.multiply.Goals as goal

pub product_read-requires-clause-mask_assembled : goal.product_read-requires-clause-mask_assembled
product_read-requires-clause-mask_assembled c = c.bounding_mask-bound.ensures.assembled c.requires.output.mask_assembled

pub product_read-requires-clause-mask_columns : goal.product_read-requires-clause-mask_columns
product_read-requires-clause-mask_columns c =
    subst (λ (n : ℕ). IfSome (option_map (λ m. m.now) c.bounding_mask-bound.result) (λ m. m.matrix.ncols ≡ n)) (sym c.requires.b.columns) (c.bounding_mask-bound.ensures.columns c.args.output.now.matrix.ncols c.requires.output.mask_columns)

pub write_product-requires-clause-inside : goal.write_product-requires-clause-inside
write_product-requires-clause-inside c =
    made-inside c.args.semiring c.args.descriptor (option_map (λ m. m.now.matrix.entries) c.args.mask) _ (turned c.args.descriptor.tran c.args.a.now.matrix.entries) (turned c.args.descriptor.tran1 c.args.b.now.matrix.entries)
    c.in_ok-computed.computed.matrix.entries (ap (λ x. x.entries) c.in_ok-computed.ensures.matrix) c.bounding_mask-bound.ensures.entries

pub returns-clause-matrix : goal.returns-clause-matrix
returns-clause-matrix c =
    let w = c.args.output.now.matrix in
    c.in_ok-made.ensures.matrix
    ∙ ap (λ (m : MatrixEntries). edited_matrix (λ c. m) w)
    (written-made c.args.semiring c.args.descriptor (option_map (λ m. m.now.matrix.entries) c.args.mask) _ (turned c.args.descriptor.tran c.args.a.now.matrix.entries) (turned c.args.descriptor.tran1 c.args.b.now.matrix.entries)
    c.in_ok-computed.computed.matrix.entries (ap (λ x. x.entries) c.in_ok-computed.ensures.matrix) c.bounding_mask-bound.ensures.entries c.args.accum w.entries)
