use Prim.{search}
use Rattle.std.proofs.Common.{rules}
use Rattle.grb_records.proofs.records.Records.open.Goals as goal

pub returns : goal.returns
returns c = search rules
