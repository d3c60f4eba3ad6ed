use Prim.{search}
use Rattle.std.proofs.Common.{rules}
use Rattle.grb_folds.proofs.reduce_totals.reduce_vector.Goals as goal

pub returns-in-Uint64 : goal.returns-in-Uint64
returns-in-Uint64 c = search rules
