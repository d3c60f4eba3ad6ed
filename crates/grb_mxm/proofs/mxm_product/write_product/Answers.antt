use Rattle.grb_mxm.proofs.mxm_product.write_product.Goals as goal

pub write_inside_matrix-requires-clause-inside : goal.write_inside_matrix-requires-clause-inside
write_inside_matrix-requires-clause-inside c = c.requires.inside c.if-descriptor.false
