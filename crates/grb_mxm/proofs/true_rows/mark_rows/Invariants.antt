use Rattle.std.proofs.Common.{◌≡◌, ◌<◌, ℕ, true, length, drop}
use Rattle.std.specs.Prelude.{◌||◌}
use Rattle.std.specs.Ordering.{nat_cmp}
use Rattle.std.specs.FinMap.{find}
use Rattle.grb_core.specs.Results.{row_of}
use Rattle.grb_lists.specs.Cells.{decoded}
use Rattle.grb_semirings.specs.Products.{is_any}
use Rattle.grb_sums.specs.Bits.{is_marked}
use Rattle.grb_sums.specs.Marks.{AreTops}
use Rattle.grb_sums.specs.Naming.{name_in}
use Rattle.grb_mxm.proofs.true_rows.mark_rows.Given as goal

-- the marks so far with what the rows that are left have are all
abbrev pub invariant-entries : goal.invariant-entries
invariant-entries l =
    let names = l.b.names.now in
    let b = decoded l.b.lists.now.entries in
    let cs = l.first.indices.now in
    record {
      marked : (p : ℕ) → p < length names → (is_marked l.words p || is_any (λ k. find nat_cmp (name_in names p) (row_of k b)) (drop l.i cs)) ≡ is_any (λ k. find nat_cmp (name_in names p) (row_of k b)) cs;
      within : (p : ℕ) → is_marked l.words p ≡ true → p < length names;
      tops : AreTops l.words l.tops;
    }
