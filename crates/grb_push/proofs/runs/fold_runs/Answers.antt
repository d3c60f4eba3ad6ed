use Rattle.std.proofs.Common.{◌≡◌, ◌<◌, ◌+◌, ◌++◌, [], ◌∷◌, ◌∙◌, ℕ, List, All, IsTrue, false, length, take, get_or, ap, sym, subst, arith}
use Rattle.std.specs.Ordering.{is_lt, is_gt, nat_cmp}
use Rattle.std.specs.Cmp.{nat_cmp_total}
use Rattle.std.specs.FinMap.{find, is_sorted, nat_cmp-IsAntisymmetric}
use Rattle.std.specs.FinMap.Entries.{is_sorted-put}
use Rattle.std.proofs.lemmas.List.{get_or_default, take_all}
use Rattle.grb_core.specs.Value.{IsValueOf}
use Rattle.grb_core.specs.Monoid.{monoid_domain}
use Rattle.grb_core.specs.Entries.{VectorEntries, values_at}
use Rattle.grb_core.specs.Fold.{fold_of_some}
use Rattle.grb_kernels.specs.Typed.{first_entries}
use Rattle.grb_lists.proofs.Places.{holds, passes}
use Rattle.grb_sparse.specs.Build.{joined}
use Rattle.grb_sparse.proofs.Building.{found_after, after_next, built_from-unique}
use Rattle.grb_sums.specs.ColumnSums.{as_entries}
use Rattle.grb_push.proofs.RunFolds.{as_entries-more, are_taken}
use Rattle.grb_push.proofs.runs.fold_runs.Goals as goal

-- one more product is folded
pub products-preserved : goal.products-preserved
products-preserved g c =
    let tv = g.T.Scalar.value in
    let m = g.M.MonoidOver.monoid in
    let p = c.index-products-i.result in
    let i = c.products.i in
    let ps = c.args.products.now in
    let first = first_entries tv c.products.k c.products.indices c.products.values in
    let held = c.products.invariant in
    let inside : i < length ps = omega arith in
    let of_type : IsValueOf g.T.Scalar.domain (tv p.1) = subst (λ (x : ℕ × g.row.T.Denot). IsValueOf g.T.Scalar.domain (tv x.1)) (sym c.index-products-i.is) (c.requires.of_domain i p inside) in
    let is : IsValueOf (monoid_domain m) (tv p.1) = subst (λ d. IsValueOf d (tv p.1)) (sym g.met.M.MonoidOver.same_domain) of_type in
    let more : as_entries tv (take (i + 1) ps) ≡ as_entries tv (take i ps) ++ (p.0, tv p.1) ∷ [] = as_entries-more tv ps i p inside c.index-products-i.is in
    let v = joined m (find nat_cmp p.0 first) (tv p.1) in
    record {
      k = omega (arith, c.add_product-k.ensures.most, held.k);
      sorted = subst (λ (es : VectorEntries). IsTrue (is_sorted nat_cmp es)) (sym c.add_product-k.ensures.entries) (passes _ (is_sorted-put nat_cmp nat_cmp_total p.0 v first (holds held.sorted)));
      found = λ q. ap (find nat_cmp q) c.add_product-k.ensures.entries
          ∙ found_after nat_cmp_total m p.0 (tv p.1) first (as_entries tv (take i ps)) held.found (are_taken tv m g.T.Scalar.domain g.met.M.MonoidOver.same_domain ps c.requires.of_domain i) is q
          ∙ ap (λ (es : VectorEntries). fold_of_some m (values_at nat_cmp q es)) (sym more);
      rising = λ d left.
          let here : get_or ps i d ≡ p = get_or_default ps i d p inside ∙ sym c.index-products-i.is in
          let up : is_lt (nat_cmp (get_or ps (i + 1) d).0 p.0) ≡ false = subst (λ (x : ℕ × g.row.T.Denot). is_lt (nat_cmp (get_or ps (i + 1) d).0 x.0) ≡ false) here (c.requires.rising i d (omega arith) left) in
          let below : All (λ e. is_gt (nat_cmp e.0 p.0) ≡ false) first = subst (λ (x : ℕ × g.row.T.Denot). All (λ e. is_gt (nat_cmp e.0 x.0) ≡ false) first) (sym c.index-products-i.is) (held.rising p inside) in
          subst (λ (es : VectorEntries). All (λ e. is_gt (nat_cmp e.0 (get_or ps (i + 1) d).0) ≡ false) es) (sym c.add_product-k.ensures.entries) (after_next nat_cmp_total p.0 (get_or ps (i + 1) d).0 v first up below);
    }

pub returns-clause-entries : goal.returns-clause-entries
returns-clause-entries g c =
    let tv = g.T.Scalar.value in
    let m = g.M.MonoidOver.monoid in
    let ps = c.args.products.now in
    let held = c.products.invariant in
    built_from-unique nat_cmp_total nat_cmp-IsAntisymmetric m (as_entries tv ps) (first_entries tv c.products.k c.products.indices c.products.values) (holds held.sorted)
    (λ q. held.found q ∙ ap (λ (es : List (ℕ × g.row.T.Denot)). fold_of_some m (values_at nat_cmp q (as_entries tv es))) (take_all c.products.i ps (omega arith)))
