use Rattle.std.proofs.Common.{◌≡◌, ◌∙◌, ◌-◌, ◌+◌, ℕ, length, take, drop, ap, refl, sym, subst, arith, get_or, min}
use Rattle.std.specs.Prelude.{IsTrue, slice_index_or}
use Rattle.std.specs.Ordering.{nat_cmp}
use Rattle.std.specs.FinMap.{is_sorted}
use Rattle.std.proofs.lemmas.List.{length-map, length-take, length-drop}
use Rattle.grb_core.specs.declared.value.Value.{Value}
use Rattle.grb_core.specs.Entries.{Cell, VectorEntries}
use Rattle.grb_core.specs.Results.{row_of}
use Rattle.grb_kernels.specs.Typed.{entries_of}
use Rattle.grb_lists.specs.Cells.{decoded, in_row}
use Rattle.grb_lists.proofs.CellCodes.{length-decoded}
use Rattle.grb_ewise.proofs.RowEntries.{row_in_order}
use Rattle.grb_maps.proofs.Between.{between}
use Rattle.grb_maps.proofs.rows.row_between.Goals as goal

pub invariant_of-result : goal.invariant_of-result
invariant_of-result g c =
    let m = c.args.lists.now.entries in
    let s = get_or c.args.starts.now c.args.k 0 in
    let e = c.end_of-end.result in
    let cs = c.args.columns.now in
    let vs = c.args.values.now in
    let tv = g.T.Scalar.value in
    let second : ℕ × Value → Value = λ d. d.1 in
    let column : Cell × Value → ℕ = λ d. d.0.1 in
    let cs_long : length cs ≡ length m = ap length c.requires.columns ∙ length-map (decoded m) column ∙ length-decoded m in
    let vs_long : length vs ≡ length m = sym (length-map vs tv) ∙ ap length c.requires.values ∙ length-map m second in
    let end : e ≡ slice_index_or c.args.starts.now (c.args.k + 1) (length m) = c.end_of-end.ensures.is ∙ ap (slice_index_or c.args.starts.now (c.args.k + 1)) c.len.ensures.len in
    let is : entries_of tv (take (e - s) (drop s cs)) (take (e - s) (drop s vs)) ≡ row_of (get_or c.args.lists.now.rows c.args.k 0) (decoded m) =
    between tv s e cs (take (e - s) (drop s cs)) vs (take (e - s) (drop s vs)) m (omega (arith, c.end_of-end.ensures.after)) c.requires.columns c.requires.values refl refl
    ∙ ap (λ n. in_row (drop s (take n m))) end ∙ sym (c.requires.spans c.args.k c.requires.at) in
    record {
      same = length-take (e - s) (drop s cs) ∙ ap (min (e - s)) (length-drop s cs ∙ ap (λ n. n - s) (cs_long ∙ sym vs_long) ∙ sym (length-drop s vs)) ∙ sym (length-take (e - s) (drop s vs));
      rising = subst (λ (x : VectorEntries). IsTrue (is_sorted nat_cmp x)) (sym is) (row_in_order (get_or c.args.lists.now.rows c.args.k 0) (decoded m) c.requires.ordered);
    }

pub returns : goal.returns
returns g c =
    let m = c.args.lists.now.entries in
    let s = get_or c.args.starts.now c.args.k 0 in
    let e = c.end_of-end.result in
    let cs = c.args.columns.now in
    let vs = c.args.values.now in
    let end : e ≡ slice_index_or c.args.starts.now (c.args.k + 1) (length m) = c.end_of-end.ensures.is ∙ ap (slice_index_or c.args.starts.now (c.args.k + 1)) c.len.ensures.len in
    between g.T.Scalar.value s e cs (take (e - s) (drop s cs)) vs (take (e - s) (drop s vs)) m (omega (arith, c.end_of-end.ensures.after)) c.requires.columns c.requires.values refl refl
    ∙ ap (λ n. in_row (drop s (take n m))) end ∙ sym (c.requires.spans c.args.k c.requires.at)
