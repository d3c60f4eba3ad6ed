use Rattle.std.proofs.Common.{◌∙◌, length, sym, ap, refl}
use Rattle.grb_core.specs.Entries.{restricted}
use Rattle.grb_core.specs.Contents.{is_cell_in}
use Rattle.grb_lists.specs.Cells.{cell_of}
use Rattle.grb_lists.specs.Stored.{RowView}
use Rattle.grb_rows.specs.Held.{HeldView}
use Rattle.grb_rows.proofs.Holding.{stored-settled, view-fresh, held-fresh}
use Rattle.grb_rows.proofs.held.Held.resize.Goals as goal

pub invariant_of-self : goal.invariant_of-self
invariant_of-self c =
    let i = c.self.inside in
    let all = stored-settled i.base i.pending.changes (c.is_empty.ensures.0 c.if-is_empty.true) in
    held-fresh i.base c.new.result c.new.ensures c.self.invariant.laid.ordered i.nvals (c.self.invariant.counted ∙ ap length all) i.assembled

-- where nothing waits and nothing is lost, the rows are what is stored
pub returns-then-is_within-clause-ok : goal.returns-then-is_within-clause-ok
returns-then-is_within-clause-ok c =
    let i = c.self.inside in
    let all = stored-settled i.base i.pending.changes (c.is_empty.ensures.0 c.if-is_empty.true) in
    let same = ap (λ (v : HeldView). v.domain) c.self.view_is in
    let flag = ap (λ (v : HeldView). v.assembled) c.self.view_is in
    let rows = ap (λ (r : RowView). r.entries) c.rows.ensures in
    let is = sym rows ∙ sym (c.is_within.ensures.0 c.if-is_within.true) ∙ ap (restricted (λ k. is_cell_in c.args.nrows c.args.ncols (cell_of k))) (rows ∙ sym all ∙ ap (λ (v : HeldView). v.entries) c.self.view_is) in
    view-fresh i.base c.new.result c.new.ensures i.assembled
    ∙ (λ t. record { entries = is t; domain = same t; assembled = flag t; reserved = 0; pending = 0 })

pub returns-then-is_within-clause-done : goal.returns-then-is_within-clause-done
returns-then-is_within-clause-done c = λ _ _. refl
