use Rattle.std.proofs.Common.{List, length, refl, ap}
use Rattle.grb_results.proofs.Prelude.{last_of}
use Rattle.grb_links.specs.declared.lasts.Lasts.{Lasts}
use Rattle.grb_links.specs.declared.node.Node.{Node}
use Rattle.grb_results.proofs.Settled.{table_refused}
use Rattle.grb_results.proofs.table.Table.reserve.Goals as goal

pub returns-in_err-reserve-clause-table : goal.returns-in_err-reserve-clause-table
returns-in_err-reserve-clause-table c cs was = table_refused cs c.args.self.now _ was was.learnt refl (λ o. refl) c.reserve.ensures.items refl

pub returns-in_err-reserve-2-clause-table : goal.returns-in_err-reserve-2-clause-table
returns-in_err-reserve-2-clause-table c cs was = table_refused cs c.args.self.now _ was was.learnt refl (λ o. refl) c.reserve.ensures.items refl

pub returns-clause-table : goal.returns-clause-table
returns-clause-table c cs was =
    table_refused cs c.args.self.now _ was (c.reserve-3.ensures.learnt cs was.learnt) refl (λ o. ap (λ (l : Lasts). last_of l o) c.reserve-3.ensures.lasts) c.reserve.ensures.items
    (ap (λ (ns : List Node). length ns) c.reserve-3.ensures.nodes)
