use Prim.{search}
use Rattle.std.proofs.Common.{rules}
use Rattle.grb_records.proofs.records.Records.call_of.Goals as goal

pub returns-clause-call : goal.returns-clause-call
returns-clause-call c = search rules

pub unreachable-requires : goal.unreachable-requires
unreachable-requires c = search rules
