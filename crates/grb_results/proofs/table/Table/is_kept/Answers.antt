use Rattle.std.proofs.Common.{sym, ◌∙◌}
use Rattle.grb_results.proofs.LastKept.{kept_of, not_kept_of}
use Rattle.grb_results.proofs.table.Table.is_kept.Goals as goal

pub returns-clause-has : goal.returns-clause-has
returns-clause-has c true_is = kept_of c.args.self.now c.args.object (λ v. v.now) c.last.result c.last.ensures.last (sym c.is_some.ensures ∙ true_is)

pub returns-clause-lacks : goal.returns-clause-lacks
returns-clause-lacks c false_is = not_kept_of c.args.self.now c.args.object (λ v. v.now) c.last.result c.last.ensures.none (sym c.is_some.ensures ∙ false_is)
