use Rattle.std.proofs.Common.{refl}
use Rattle.grb_results.proofs.LastKept.{table_beside}
use Rattle.grb_results.proofs.table.Table.sweep_where_due.Goals as goal

pub returns-clause-table : goal.returns-clause-table
returns-clause-table c cs was = table_beside cs c.sweep.new.self _ refl refl refl (c.sweep.ensures.table cs was)
