use Prim.{search}
use Rattle.std.proofs.Common.{rules}
use Rattle.grb_records.proofs.records.Records.same.Goals as goal

pub compare-requires : goal.compare-requires
compare-requires c = search rules

pub returns-clause-record : goal.returns-clause-record
returns-clause-record c = search rules
