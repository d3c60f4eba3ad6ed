use Rattle.std.proofs.Common.{◌≡◌, take}
use Rattle.std.specs.Prelude.{min}
use Rattle.grb_lists.specs.Cells.{decoded}
use Rattle.grb_mxm.specs.RowProducts.{products_count}
use Rattle.grb_mxm.proofs.whole_rows.products_up_to.Given as goal

-- the products of the columns so far are counted
abbrev pub invariant-loop-i : goal.invariant-loop-i
invariant-loop-i g l = l.count ≡ min l.most (products_count (take l.i l.columns) (decoded l.b.lists.now.entries))
