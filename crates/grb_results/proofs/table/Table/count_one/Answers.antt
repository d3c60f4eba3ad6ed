use Rattle.std.proofs.Common.{refl, arith}
use Rattle.grb_results.proofs.LastKept.{table_still}
use Rattle.grb_results.proofs.table.Table.count_one.Goals as goal

pub returns-clause-table : goal.returns-clause-table
returns-clause-table c cs was = table_still cs c.args.self.now _ refl refl (omega arith) was
