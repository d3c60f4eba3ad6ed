use Rattle.std.proofs.Common.{◌++◌, ap, sym, ◌∙◌}
use Rattle.std.specs.Prelude.{Option}
use Rattle.std.specs.Option.{option_map}
use Rattle.grb_core.specs.Entries.{MatrixEntries}
use Rattle.grb_lists.specs.Cells.{decoded}
use Rattle.grb_ewise.specs.Rows.{flat_entries}
use Rattle.grb_mxm.specs.Rows.{rows_between, selected_product}
use Rattle.grb_jobs.specs.Blocks.{Product, made_by}
use Rattle.grb_jobs.proofs.joined.append_own.Goals as goal

pub returns-clause-entries : goal.returns-clause-entries
returns-clause-entries g c =
    let i = c.inputs.inside in
    let f = c.args.from in
    let u = c.args.upto in
    let w = flat_entries g.T.Scalar.value c.args.made.rows.items c.args.made.starts.items c.args.made.columns.items c.args.made.values.items in
    let a = decoded c.lend_matrix-first.result.lists.now.entries in
    let b = decoded c.lend_matrix-second.result.lists.now.entries in
    let mask = option_map (λ m. m.matrix.entries) i.mask in
    c.in_ok-all.ensures.entries
    ∙ ap (λ (m : Option MatrixEntries). w ++ rows_between f u (selected_product i.semiring i.structure m a b)) (c.bound-mask.ensures.entries ∙ sym (ap (λ (p : Product). p.mask) c.inputs.view_is))
    ∙ ap (λ (m : MatrixEntries). w ++ rows_between f u (selected_product i.semiring i.structure mask m b)) c.lend_matrix-first.ensures.entries
    ∙ ap (λ (m : MatrixEntries). w ++ rows_between f u (selected_product i.semiring i.structure mask i.first.matrix.entries m)) c.lend_matrix-second.ensures.entries
    ∙ ap (λ (p : Product). w ++ rows_between f u (made_by p)) c.inputs.view_is
