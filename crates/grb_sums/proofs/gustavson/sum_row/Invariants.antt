use Rattle.std.proofs.Common.{◌≡◌, ◌<◌, ℕ, true, length}
use Rattle.std.specs.List.{AllByRecursion}
use Rattle.std.specs.Ordering.{nat_cmp}
use Rattle.std.specs.FinMap.{find}
use Rattle.grb_core.specs.Value.{IsValueOf}
use Rattle.grb_core.specs.Monoid.{monoid_domain}
use Rattle.grb_core.specs.Fold.{fold_of_some}
use Rattle.grb_core.specs.Results.{row_of}
use Rattle.grb_kernels.specs.Typed.{first_entries}
use Rattle.grb_lists.specs.Cells.{decoded}
use Rattle.grb_semirings.specs.Products.{products}
use Rattle.grb_sums.specs.Naming.{name_in}
use Rattle.grb_sums.proofs.gustavson.sum_row.Given as goal

-- the sums of the entries so far, where they are asked for
abbrev pub invariant-entries : goal.invariant-entries
invariant-entries g l =
    let m = g.M.MonoidOver.monoid in
    record {
      sound : g.S.RowSums.sound l.sums;
      width : g.S.RowSums.width l.sums ≡ length l.b.names.now;
      asks : (p : ℕ) → g.S.RowSums.asks l.sums p ≡ g.S.RowSums.asks l.fn.sums p;
      sums : (p : ℕ) → p < length l.b.names.now → g.S.RowSums.asks l.sums p ≡ true → g.S.RowSums.sum l.sums p
          ≡ fold_of_some m (products g.O.Operator.op (λ k. find nat_cmp (name_in l.b.names.now p) (row_of k (decoded l.b.lists.now.entries))) (first_entries g.T.Scalar.value l.i l.first.indices.now l.first.values.now));
      of_domain : (p : ℕ) → p < length l.b.names.now
          → AllByRecursion (IsValueOf (monoid_domain m)) (products g.O.Operator.op (λ k. find nat_cmp (name_in l.b.names.now p) (row_of k (decoded l.b.lists.now.entries))) (first_entries g.T.Scalar.value l.i l.first.indices.now l.first.values.now));
    }
