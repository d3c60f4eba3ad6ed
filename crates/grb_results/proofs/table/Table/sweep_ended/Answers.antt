use Rattle.std.proofs.Common.{refl}
use Rattle.grb_results.proofs.LastKept.{table_beside}
use Rattle.grb_results.proofs.table.Table.sweep_ended.Goals as goal

pub returns-clause-table : goal.returns-clause-table
returns-clause-table c cs was = c.sweep.ensures.table cs (table_beside cs c.args.self.now _ refl refl refl was)
