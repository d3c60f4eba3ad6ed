use Rattle.std.proofs.Common.{◌≡◌, ◌+◌, suc, take, ◌∙◌, ◌++◌, ◌∷◌, [], ℕ, get_or, ap, sym, arith}
use Rattle.grb_codes.specs.Arrays.{cells_of_arrays}
use Rattle.grb_codes.proofs.Arrays.{cells-next}
use Rattle.grb_codes.proofs.builds.matrix_cells.Goals as goal

pub cells-preserved : goal.cells-preserved
cells-preserved g c =
    let at = c.cells.at in let is = c.args.rows.now in let js = c.args.columns.now in let xs = c.args.values.now in let held = c.cells.invariant in let x = c.index-values-at.result in
    let one_more : suc at ≡ at + 1 = omega arith in
    let value : c.value.result ≡ g.T.Item.value (get_or xs at x) = c.value.ensures ∙ ap g.T.Item.value c.index-values-at.is in
    record {
      cells = c.push_reserved.ensures.items
          ∙ (λ i. held.cells i ++ (get_or is at 0, get_or js at 0, value i) ∷ [])
          ∙ sym (cells-next g.T.Item.value is js xs at x c.cells-test.true c.requires.rows c.requires.columns)
          ∙ ap (λ (n : ℕ). cells_of_arrays g.T.Item.value (take n is) (take n js) (take n xs)) one_more;
      len = omega (arith, c.push_reserved.ensures.len, held.len);
      room = omega (arith, c.push_reserved.ensures.capacity, held.room);
    }
