use Rattle.std.proofs.Common.{◌∙◌, length, IsTrue, ap, subst}
use Rattle.std.specs.Ordering.{nat_cmp}
use Rattle.std.specs.FinMap.{is_sorted}
use Rattle.grb_lists.specs.Stored.{RowView}
use Rattle.grb_rows.proofs.Holding.{view-fresh, held-fresh}
use Rattle.grb_rows.proofs.held.Held.over.Goals as goal

pub invariant_of-result : goal.invariant_of-result
invariant_of-result c =
    let ordered = subst (λ (r : RowView). IsTrue (is_sorted nat_cmp r.entries)) c.rows.ensures c.len-nvals.ensures.ordered in
    let count = c.len-nvals.ensures.len ∙ ap (λ (r : RowView). length r.entries) c.rows.ensures in
    held-fresh c.args.base c.new.result c.new.ensures ordered c.len-nvals.result count c.args.assembled

pub returns : goal.returns
returns c = view-fresh c.args.base c.new.result c.new.ensures c.args.assembled
