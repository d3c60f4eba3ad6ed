use Rattle.std.proofs.Common.{refl, sym, subst}
use Rattle.grb_results.proofs.Prelude.{Table, AreTaken, IsTable, KeepsAlso}
use Rattle.grb_results.proofs.Exchanging.{also_beside, in_any_case, table_from}
use Rattle.grb_results.proofs.LastKept.{table_beside}
use Rattle.grb_results.proofs.table.Table.take_new.Goals as goal

pub returns-in_err-take_since-clause-taken : goal.returns-in_err-take_since-clause-taken
returns-in_err-take_since-clause-taken c = c.in_err-take_since.ensures.taken.taken

pub returns-in_err-take_since-clause-table : goal.returns-in_err-take_since-clause-table
returns-in_err-take_since-clause-table c cs ds was other one = table_from cs ds c.args.self.now c.args.other.now c.take_since.new.self was other one c.in_err-take_since.ensures.taken

pub returns-then-count-clause-taken : goal.returns-then-count-clause-taken
returns-then-count-clause-taken c = c.in_ok-take_since.ensures.taken.taken

pub returns-then-count-clause-table : goal.returns-then-count-clause-table
returns-then-count-clause-table c cs ds was other one = table_from cs ds c.args.self.now c.args.other.now c.take_since.new.self was other one c.in_ok-take_since.ensures.taken

pub returns-then-count-clause-all : goal.returns-then-count-clause-all
returns-then-count-clause-all c none = c.in_ok-take_since.ensures.all (c.taken_of.ensures none)

pub returns-clause-taken : goal.returns-clause-taken
returns-clause-taken c = subst (λ (t : Table). AreTaken c.args.self.now.results.items c.args.other.now.results.items t.results.items) (sym c.note_taken.ensures) c.in_ok-take_since.ensures.taken.taken

pub returns-clause-table : goal.returns-clause-table
returns-clause-table c cs ds was other one =
    subst (λ (t : Table). IsTable cs t) (sym c.note_taken.ensures)
    (table_beside cs c.take_since.new.self _ refl refl refl (table_from cs ds c.args.self.now c.args.other.now c.take_since.new.self was other one c.in_ok-take_since.ensures.taken))

pub returns-clause-all : goal.returns-clause-all
returns-clause-all c =
    in_any_case _ c.note_taken.result
    (λ none. subst (λ (t : Table). KeepsAlso c.args.other.now t) (sym c.note_taken.ensures) (also_beside c.args.other.now c.take_since.new.self _ refl (c.in_ok-take_since.ensures.all (c.taken_of.ensures none))))
