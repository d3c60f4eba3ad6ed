use Rattle.std.proofs.Common.{ℕ, ◌++◌, List, length, take, drop, ap, ◌∙◌, arith}
use Rattle.grb_kernels.specs.Typed.{entries_of, first_entries}
use Rattle.grb_ewise.proofs.Cutting.{marks_cleared, cut_by_marks}
use Rattle.grb_ewise.proofs.RowMerges.{lent_whole}
use Rattle.grb_ewise.proofs.marks.lay_common.Goals as goal

pub returns-clause-clear : goal.returns-clause-clear
returns-clause-clear g c =
    marks_cleared c.args.y.now.indices.now c.args.marks.now c.mark.new.marks c.mark-2.new.marks c.requires.y_marks c.requires.clear c.mark.ensures c.mark-2.ensures

pub returns-clause-entries : goal.returns-clause-entries
returns-clause-entries g c =
    let tv = g.T.Scalar.value in
    let x = c.args.x.now in
    let n = c.keep_marked-n.result in
    let columns = c.keep_marked-n.new.columns in
    let values = c.keep_marked-n.new.values in
    let all_columns = c.lengthen.new.columns in
    let all_values = c.lengthen.new.values in
    let columns_are = lent_whole all_columns.len columns (drop (length columns) all_columns.items)
    (omega (arith, c.keep_marked-n.auto.columns, ap length c.as_mut_slice-columns.ensures.value, all_columns.ok.0)) in
    let values_are = lent_whole all_values.len values (drop (length values) all_values.items)
    (omega (arith, c.keep_marked-n.auto.values, ap length c.as_mut_slice-values.ensures.value, all_values.ok.0)) in
    cut_by_marks c.args.y.now.indices.now c.args.marks.now c.mark.new.marks (entries_of tv x.indices.now x.values.now) _ c.requires.y_marks c.mark.ensures
    (ap (λ (s : List ℕ). first_entries tv n s (take all_values.len (values ++ drop (length values) all_values.items))) columns_are
    ∙ ap (first_entries tv n columns) values_are
    ∙ c.keep_marked-n.ensures.entries)
