use Rattle.std.proofs.Common.{ℕ, ◌++◌, List, length, take, drop, ap, ◌∙◌, arith}
use Rattle.grb_kernels.specs.Typed.{entries_of}
use Rattle.grb_ewise.proofs.RowMerges.{lent_whole}
use Rattle.grb_ewise.proofs.rows.write_row.Goals as goal

pub returns-clause-entries : goal.returns-clause-entries
returns-clause-entries g c =
    let tv = g.T.Scalar.value in
    let k = c.args.k in
    let n = c.merge_row-count.result in
    let columns = c.merge_row-count.new.columns in
    let values = c.merge_row-count.new.values in
    let all_columns = c.lengthen.new.columns in
    let all_values = c.lengthen.new.values in
    let columns_are = lent_whole all_columns.len columns (drop (length columns) all_columns.items)
    (omega (arith, c.merge_row-count.auto.columns, ap length c.as_mut_slice-open_columns.ensures.value, all_columns.ok.0)) in
    let values_are = lent_whole all_values.len values (drop (length values) all_values.items)
    (omega (arith, c.merge_row-count.auto.values, ap length c.as_mut_slice-open_values.ensures.value, all_values.ok.0)) in
    ap (λ (s : List ℕ). entries_of tv (take n (drop k s)) (take n (drop k (take all_values.len (values ++ drop (length values) all_values.items))))) columns_are
    ∙ ap (entries_of tv (take n (drop k columns))) (ap (take n) (ap (drop k) values_are))
    ∙ c.merge_row-count.ensures.entries
