use Rattle.grb_ewise.proofs.Alike.{matrix_like, matrix_mask, matrices_alike}
use Rattle.grb_ewise.proofs.writing.write_masked_matrix.Goals as goal

pub write-requires-clause-mask : goal.write-requires-clause-mask
write-requires-clause-mask c =
    matrix_mask c.args.output.now c.args.mask c.requires.output.assembled c.requires.output.mask_assembled c.requires.output.mask_rows c.requires.output.mask_columns

pub write-requires-clause-computed : goal.write-requires-clause-computed
write-requires-clause-computed c =
    matrices_alike c.args.output.now c.args.computed c.requires.output.assembled c.requires.computed.assembled c.requires.computed.rows c.requires.computed.columns

pub returns-clause-matrix : goal.returns-clause-matrix
returns-clause-matrix c = matrix_like c.args.output.now c.in_ok-new.new _ c.in_ok-new.ensures
