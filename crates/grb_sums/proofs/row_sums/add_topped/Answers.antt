use Rattle.std.proofs.Common.{◌≡◌, ◌<◌, ◌+◌, ◌/◌, ◌∷◌, List, Bool, true, false, ap, sym, subst, ◌∙◌, length, get_or, arith}
use Rattle.std.proofs.lemmas.List.{get_or-set_same}
use Rattle.std.specs.Prelude.{Some, IsTrue}
use Rattle.std.specs.List.{AllByRecursion}
use Rattle.std.specs.Ordering.{nat_cmp}
use Rattle.std.specs.FinMap.{find, is_sorted}
use Rattle.grb_core.specs.Value.{IsValueOf}
use Rattle.grb_core.specs.Operator.{value_of_op}
use Rattle.grb_core.specs.Monoid.{monoid_op}
use Rattle.grb_core.specs.Written.{either_value, both_values}
use Rattle.grb_kernels.specs.Typed.{entries_of, entries_from, first_entries}
use Rattle.grb_kernels.proofs.Lists.{from-read, first-read}
use Rattle.grb_semirings.specs.Open.{marked_at}
use Rattle.grb_sums.specs.Marks.{marks_of, touched}
use Rattle.grb_sums.proofs.SummedRow.{all_and, below_rest, rest_ordered}
use Rattle.grb_sums.proofs.Adding.{allowed_step}
use Rattle.grb_sums.proofs.Tops.{length-touched, tops_marked}
use Rattle.grb_sums.proofs.row_sums.add_topped.Goals as goal

pub row-preserved : goal.row-preserved
row-preserved g c =
    let tv = g.T.Scalar.value in
    let m = g.M.MonoidOver.monoid in
    let add = value_of_op (monoid_op m) in
    let mul = value_of_op g.O.Operator.op in
    let cs = c.args.places.now in
    let vs = c.args.values.now in
    let ss = c.row.sums in
    let ws = c.row.words in
    let ss2 = c.add_at.new.sums in
    let ws2 = c.add_at.new.words in
    let i = c.row.i in
    let q = get_or cs i 0 in
    let y = c.index-values-i.result in
    let xv = tv c.args.x in
    let rest = entries_from tv (i + 1) cs vs in
    let inside : i < length cs = c.row-test.true in
    let word : q / 64 < length ws = omega (arith, c.requires.in_range i 0 inside, c.requires.enough) in
    let front : entries_from tv i cs vs ≡ (q, tv y) ∷ rest = from-read tv cs vs i y inside c.requires.same c.index-values-i.is in
    let ordered : IsTrue (is_sorted nat_cmp ((q, tv y) ∷ rest)) = subst (λ m. IsTrue (is_sorted nat_cmp m)) front c.row.invariant.ordered in
    let product : tv c.read-product.result ≡ mul xv (tv y) = ap tv c.read-product.ensures.same ∙ c.apply-made.ensures in
    let of : IsValueOf g.T.Scalar.domain (mul xv (tv y)) = subst (IsValueOf g.T.Scalar.domain) c.apply-made.ensures c.read-product.ensures.of_domain in
    record {
      added = λ p.
          allowed_step add mul p q xv (tv y) rest (marked_at tv (marks_of (length ss) ws) ss p) (marked_at tv (marks_of (length ss2) ws2) ss2 p)
          (either_value add (marked_at tv (marks_of (length c.args.sums.now) c.args.words.now) c.args.sums.now p) (both_values mul (Some xv) (find nat_cmp p (entries_of tv cs vs))))
          (λ e.
          ap (marked_at tv (marks_of (length ss2) ws2) ss2) e
          ∙ c.add_at.ensures.added
          ∙ ap (λ v. either_value add (marked_at tv (marks_of (length ss) ws) ss q) (Some v)) product
          ∙ ap (λ k. either_value add (marked_at tv (marks_of (length ss) ws) ss k) (Some (mul xv (tv y)))) (sym e))
          (λ n. c.add_at.ensures.others p n)
          (below_rest q (tv y) rest ordered)
          (ap (λ m. either_value add (marked_at tv (marks_of (length ss) ws) ss p) (both_values mul (Some xv) (find nat_cmp p m))) (sym front) ∙ c.row.invariant.added p);
      bits = c.add_at.ensures.bits;
      clear = c.add_at.ensures.clear;
      tops = tops_marked ws ws2 c.row.tops c.mark_after.new.tops (q / 64) c.row.invariant.tops c.add_at.ensures.touched
          (c.mark_after.ensures (touched ws) (omega (arith, length-touched ws, word))
          (λ e. ap (λ w. get_or (touched ws) w false) e ∙ c.row.invariant.before (omega (arith, word, e))) c.row.invariant.tops.bits) (omega arith);
      before = λ l. ap (λ (m : List Bool). get_or m (q / 64) false) c.add_at.ensures.touched ∙ get_or-set_same (touched ws) (q / 64) true false (omega (arith, length-touched ws, word));
      ordered = rest_ordered q (tv y) rest ordered;
      of_domain = subst (AllByRecursion (λ e. IsValueOf g.T.Scalar.domain (mul xv e.1))) (sym (first-read tv cs vs i y inside c.requires.same c.index-values-i.is))
          (all_and (λ e. IsValueOf g.T.Scalar.domain (mul xv e.1)) (first_entries tv i cs vs) (q, tv y) c.row.invariant.of_domain of);
    }
