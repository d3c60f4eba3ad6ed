use Rattle.std.proofs.Common.{◌≡◌, ◌<◌, ℕ, refl, ap, sym, subst, ◌∙◌, length, get_or}
use Rattle.std.specs.Prelude.{Some, Option}
use Rattle.grb_core.specs.declared.value.Value.{Value}
use Rattle.std.specs.List.{AllByRecursion}
use Rattle.std.specs.Ordering.{nat_cmp}
use Rattle.std.specs.FinMap.{find}
use Rattle.std.proofs.lemmas.List.Elements.{recursion_from_All}
use Rattle.grb_core.specs.Value.{IsValueOf}
use Rattle.grb_core.specs.Operator.{value_of_op}
use Rattle.grb_core.specs.Monoid.{monoid_op, monoid_domain}
use Rattle.grb_core.specs.Fold.{fold_of_some}
use Rattle.grb_core.specs.Written.{either_value, both_values}
use Rattle.grb_core.specs.Results.{row_of}
use Rattle.grb_kernels.specs.Typed.{entries_of, first_entries}
use Rattle.grb_kernels.proofs.Lists.{first-read, first-all}
use Rattle.grb_lists.specs.Cells.{decoded}
use Rattle.grb_semirings.specs.Products.{products, list_of}
use Rattle.grb_sums.specs.Naming.{name_in}
use Rattle.grb_sums.proofs.Renamed.{find-renamed}
use Rattle.grb_sums.proofs.SummedRow.{summed, summed_of, found_product}
use Rattle.grb_sums.proofs.gustavson.sum_row.Goals as goal

pub entries-init : goal.entries-init
entries-init g c = record {
  sound = c.requires.sound;
  width = c.requires.width;
  asks = λ p. refl;
  sums = λ p l a. c.requires.none p;
  of_domain = λ p l. tt;
}

pub entries-preserved : goal.entries-preserved
entries-preserved g c =
    let tv = g.T.Scalar.value in
    let m = g.M.MonoidOver.monoid in
    let op = g.O.Operator.op in
    let names = c.args.b.now.names.now in
    let name = name_in names in
    let b = decoded c.args.b.now.lists.now.entries in
    let y : ℕ → ℕ → Option Value = λ p k. find nat_cmp (name p) (row_of k b) in
    let cs = c.args.first.now.indices.now in
    let vs = c.args.first.now.values.now in
    let i = c.entries.i in
    let k = get_or cs i 0 in
    let v = c.index-values-i.result in
    let row = c.row-row.result in
    let held = c.entries.invariant in
    let x = first_entries tv i cs vs in
    let more = first-read tv cs vs i v c.entries-test.true c.args.first.now.same c.index-values-i.is in
    let below = recursion_from_All (λ r. r < length names) row.indices.now c.row-row.ensures.in_range in
    let at : (p : ℕ) → p < length names → find nat_cmp p (entries_of tv row.indices.now row.values.now) ≡ y p k =
    λ p l. find-renamed (length names) name c.args.b.now.rising tv p row.indices.now row.values.now l below ∙ ap (find nat_cmp (name p)) c.row-row.ensures.entries in
    let is_of : (p : ℕ) → p < length names → AllByRecursion (IsValueOf (monoid_domain m)) (list_of (both_values (value_of_op op) (Some (tv v)) (y p k))) =
    λ p l. subst (λ w. AllByRecursion (IsValueOf (monoid_domain m)) (list_of (both_values (value_of_op op) (Some (tv v)) w))) (at p l)
    (found_product (IsValueOf (monoid_domain m)) op (tv v) (entries_of tv row.indices.now row.values.now) p
    (subst (λ d. AllByRecursion (λ e. IsValueOf d (value_of_op op (tv v) e.1)) (entries_of tv row.indices.now row.values.now)) (sym g.met.M.MonoidOver.same_domain) c.add.ensures.of_domain)) in
    record {
      sound = c.add.ensures.sound;
      width = c.add.ensures.width ∙ held.width;
      asks = λ p. c.add.ensures.asks p ∙ held.asks p;
      sums = λ p l a.
          summed m op (y p) x k (tv v) (held.of_domain p l) (is_of p l) (g.S.RowSums.sum c.entries.sums p) (g.S.RowSums.sum c.add.new.self p) (held.sums p l (sym (c.add.ensures.asks p) ∙ a))
          (c.add.ensures.added p a ∙ ap (λ w. either_value (value_of_op (monoid_op m)) (g.S.RowSums.sum c.entries.sums p) (both_values (value_of_op op) (Some (tv v)) w)) (at p l))
          ∙ ap (λ z. fold_of_some m (products op (y p) z)) (sym more);
      of_domain = λ p l. subst (λ z. AllByRecursion (IsValueOf (monoid_domain m)) (products op (y p) z)) (sym more) (summed_of m op (y p) x k (tv v) (held.of_domain p l) (is_of p l));
    }

pub returns-clause-sums : goal.returns-clause-sums
returns-clause-sums g c p l a =
    let tv = g.T.Scalar.value in
    let b = decoded c.args.b.now.lists.now.entries in
    c.entries.invariant.sums p l a
    ∙ ap (λ x. fold_of_some g.M.MonoidOver.monoid (products g.O.Operator.op (λ k. find nat_cmp (name_in c.args.b.now.names.now p) (row_of k b)) x)) (first-all tv c.args.first.now.indices.now c.args.first.now.values.now c.entries.i c.entries-test.false c.args.first.now.same)
