use Rattle.std.proofs.Common.{◌≡◌, ◌+◌, ◌<◌, List, length, Option, sym, ap, subst, ◌∙◌, arith}
use Rattle.grb_results.proofs.Prelude.{length_push, SparseVectorView, stored_vectors, OfEach}
use Rattle.grb_results.proofs.Lists.{each_push}
use Rattle.grb_results.proofs.Rebuilt.{vectors_more}
use Rattle.grb_results.proofs.table.Table.shared_vectors.Goals as goal

pub vectors-preserved : goal.vectors-preserved
vectors-preserved c =
    let t = c.args.self.now in let all = c.vectors.all.items in let n = c.vectors.number in let q = c.in_ok-shared_vector.field-0 in let items = c.in_ok-push.ensures.items in
    let near : n < length t.learnt.shapes.objects.vectors = omega (arith, c.vectors-test.true, c.vectors-number-end.ensures) in
    let more : length c.push.new.self.items ≡ length all + 1 = ap length items ∙ length_push all q in
    record {
      stored = λ cs is. ap (λ (ys : List (Option SparseVectorView)). stored_vectors ys) items ∙ vectors_more t all n q c.vectors.invariant.stored near c.in_ok-shared_vector.ensures.stored cs is;
      assembled = subst (λ (ys : List (Option SparseVectorView)). OfEach (λ (x : SparseVectorView). x.assembled) ys) (sym items)
          (each_push (λ (x : SparseVectorView). x.assembled) all q c.vectors.invariant.assembled c.in_ok-shared_vector.ensures.assembled);
      count = omega (arith, more, c.vectors.invariant.count);
    }
