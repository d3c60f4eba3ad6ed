use Rattle.std.proofs.Common.{◌∙◌}
use Rattle.grb_kernels.specs.Typed.{entries_of, first_entries}
use Rattle.grb_ewise.proofs.Cutting.{cut_lent, cut-in_order, pointwise-cut}
use Rattle.grb_ewise.proofs.rows.append_row.Goals as goal

pub invariant_of-cut-clause-rising : goal.invariant_of-cut-clause-rising
invariant_of-cut-clause-rising g c =
    let tv = g.T.Scalar.value in
    let x = c.args.x.now in
    let js = c.args.y.now.indices.now in
    let row = entries_of tv x.indices.now x.values.now in
    let n = c.in_ok-n.n in
    let laid = c.lay_common.new.laid in
    let cut = cut_lent tv js row n laid.columns.items c.deref.result.now laid.values.items c.deref-then-is_cut.result.now c.deref.ensures.value c.deref-then-is_cut.ensures.value c.in_ok-n.ensures.entries in
    cut-in_order js row _ x.rising cut

pub returns-then-is_cut-clause-entries : goal.returns-then-is_cut-clause-entries
returns-then-is_cut-clause-entries g c =
    let tv = g.T.Scalar.value in
    let x = c.args.x.now in
    let y = c.args.y.now in
    let js = y.indices.now in
    let row = entries_of tv x.indices.now x.values.now in
    let n = c.in_ok-n.n in
    let laid = c.lay_common.new.laid in
    let rule = c.args.rule.now in
    let cut = cut_lent tv js row n laid.columns.items c.deref.result.now laid.values.items c.deref-then-is_cut.result.now c.deref.ensures.value c.deref-then-is_cut.ensures.value c.in_ok-n.ensures.entries in
    c.in_ok-count.ensures.entries
    ∙ pointwise-cut (g.R.Rule.gives rule) (g.met.R.Rule.none rule) (g.met.R.Rule.left_none rule (c.is_cut.ensures.left c.if-is_cut.true)) g.U.Scalar.value js y.values.now row
    (first_entries tv n c.deref.result.now c.deref-then-is_cut.result.now) cut
