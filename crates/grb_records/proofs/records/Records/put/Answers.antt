use Prim.{search}
use Rattle.std.proofs.Common.{rules}
use Rattle.grb_records.proofs.records.Records.put.Goals as goal

pub invariant_of-result : goal.invariant_of-result
invariant_of-result c = search rules

pub returns-in-Err-clause-put : goal.returns-in-Err-clause-put
returns-in-Err-clause-put c = search rules

pub returns-in-Err-clause-refused : goal.returns-in-Err-clause-refused
returns-in-Err-clause-refused c = search rules

pub returns-in-Ok-set_as-clause-of : goal.returns-in-Ok-set_as-clause-of
returns-in-Ok-set_as-clause-of c = search rules

pub returns-in-Ok-set_as-clause-outside : goal.returns-in-Ok-set_as-clause-outside
returns-in-Ok-set_as-clause-outside c = search rules

pub returns-in_default-clause-outside : goal.returns-in_default-clause-outside
returns-in_default-clause-outside c = search rules

pub returns-in_default-new-clause-outside : goal.returns-in_default-new-clause-outside
returns-in_default-new-clause-outside c = search rules
