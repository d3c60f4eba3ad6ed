use Rattle.std.proofs.Common.{◌≡◌, ℕ, ◌<◌, ◌≤◌, length, take, get_or, false, All, IsTrue}
use Rattle.std.specs.Ordering.{is_gt, nat_cmp}
use Rattle.std.specs.FinMap.{find, is_sorted}
use Rattle.grb_core.specs.Entries.{values_at}
use Rattle.grb_core.specs.Fold.{fold_of_some}
use Rattle.grb_kernels.specs.Typed.{first_entries}
use Rattle.grb_sums.specs.ColumnSums.{as_entries}
use Rattle.grb_push.proofs.runs.fold_runs.Given as goal

-- the products so far are folded, none of them after the next
abbrev pub invariant-products : goal.invariant-products
invariant-products g l =
    let tv = g.T.Scalar.value in
    let m = g.M.MonoidOver.monoid in
    let first = first_entries tv l.k l.indices l.values in
    record {
      k : l.k ≤ l.i;
      sorted : IsTrue (is_sorted nat_cmp first);
      found : (q : ℕ) → find nat_cmp q first ≡ fold_of_some m (values_at nat_cmp q (as_entries tv (take l.i l.products)));
      rising : (d : _) → l.i < length l.products → All (λ e. is_gt (nat_cmp e.0 (get_or l.products l.i d).0) ≡ false) first;
    }
