use Rattle.grb_ewise.proofs.Alike.{vector_like, vector_mask, vectors_alike}
use Rattle.grb_ewise.proofs.writing.write_masked_vector.Goals as goal

pub write-requires-clause-mask : goal.write-requires-clause-mask
write-requires-clause-mask c = vector_mask c.args.output.now c.args.mask c.requires.output.assembled c.requires.output.mask_assembled c.requires.output.mask_size

pub write-requires-clause-computed : goal.write-requires-clause-computed
write-requires-clause-computed c = vectors_alike c.args.output.now c.args.computed c.requires.output.assembled c.requires.computed.assembled c.requires.computed.same_size

pub returns-clause-vector : goal.returns-clause-vector
returns-clause-vector c = vector_like c.args.output.now c.in_ok-new.new _ c.in_ok-new.ensures
