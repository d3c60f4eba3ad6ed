use Rattle.std.proofs.Common.{refl}
use Rattle.grb_results.proofs.LastKept.{table_beside}
use Rattle.grb_results.proofs.table.Table.sweep.Goals as goal

pub returns-in-Ok-clause-table : goal.returns-in-Ok-clause-table
returns-in-Ok-clause-table c cs was =
    table_beside cs c.note_reads.new.self _ refl refl refl
    (table_beside cs c.drop_unmarked.new.self c.note_reads.new.self c.note_reads.ensures.same.learnt c.note_reads.ensures.results c.note_reads.ensures.settled (c.drop_unmarked.ensures.table cs was))
