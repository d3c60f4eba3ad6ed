use Rattle.std.proofs.Common.{refl, arith}
use Rattle.grb_results.proofs.LastKept.{table_beside, table_still}
use Rattle.grb_results.proofs.table.Table.release.Goals as goal

pub returns-clause-table : goal.returns-clause-table
returns-clause-table c cs was =
    table_beside cs c.note_all_reads.new.self _ refl refl refl
    (table_beside cs c.drop_unmarked.new.self c.note_all_reads.new.self c.note_all_reads.ensures.same.learnt c.note_all_reads.ensures.results c.note_all_reads.ensures.settled
    (c.drop_unmarked.ensures.table cs (table_still cs c.args.self.now _ refl refl (omega arith) was)))
