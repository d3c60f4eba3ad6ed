use Prim.{search}
use Rattle.std.proofs.Common.{rules}
use Rattle.grb_records.proofs.records.Records.show.Goals as goal

pub returns-clause-of : goal.returns-clause-of
returns-clause-of c = search rules
