use Rattle.std.proofs.Common.{refl, sym, ◌∙◌, arith}
use Rattle.grb_results.proofs.LastKept.{no_some, table_still}
use Rattle.grb_results.proofs.table.Table.unsettle.Goals as goal
use Rattle.grb_results.proofs.table.Table.unsettle.Goals.{else-at-self-via-then-at-self+else-is_some, else-at-self-via-else-at-self}

pub returns-then-is_some-clause-table : goal.returns-then-is_some-clause-table
returns-then-is_some-clause-table c cs was = let near = c.if-at-self.true in table_still cs c.args.self.now _ refl refl (omega (arith, near)) was

pub returns-else-at-self-clause-apart : goal.returns-else-at-self-clause-apart
returns-else-at-self-clause-apart c cs was o live last near = elim c.else-at-self.branch [
  | else-at-self-via-then-at-self+else-is_some w ↦ no_some w.last_at.result o (w.last_at.ensures.all cs o was live (omega (arith, last))) (sym w.is_some.ensures ∙ w.if-is_some.false)
  | else-at-self-via-else-at-self w ↦ let far = w.if-at-self.false in omega (arith, near, far)
]
