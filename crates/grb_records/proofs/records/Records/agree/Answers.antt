use Prim.{search}
use Rattle.std.proofs.Common.{rules}
use Rattle.grb_records.proofs.records.Records.agree.Goals as goal

pub compare-requires : goal.compare-requires
compare-requires c = search rules

pub returns-clause-call : goal.returns-clause-call
returns-clause-call c = search rules
