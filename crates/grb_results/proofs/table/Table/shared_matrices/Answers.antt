use Rattle.std.proofs.Common.{◌≡◌, ◌+◌, ◌<◌, List, length, Option, sym, ap, subst, ◌∙◌, arith}
use Rattle.grb_results.proofs.Prelude.{length_push, SparseMatrixView, stored_matrices, OfEach}
use Rattle.grb_results.proofs.Lists.{each_push}
use Rattle.grb_results.proofs.Rebuilt.{matrices_more}
use Rattle.grb_results.proofs.table.Table.shared_matrices.Goals as goal

pub matrices-preserved : goal.matrices-preserved
matrices-preserved c =
    let t = c.args.self.now in let all = c.matrices.all.items in let n = c.matrices.number in let q = c.in_ok-shared_matrix.field-0 in let items = c.in_ok-push.ensures.items in
    let near : n < length t.learnt.shapes.objects.matrices = omega (arith, c.matrices-test.true, c.matrices-number-end.ensures) in
    let more : length c.push.new.self.items ≡ length all + 1 = ap length items ∙ length_push all q in
    record {
      stored = λ cs is. ap (λ (ys : List (Option SparseMatrixView)). stored_matrices ys) items ∙ matrices_more t all n q c.matrices.invariant.stored near c.in_ok-shared_matrix.ensures.stored cs is;
      assembled = subst (λ (ys : List (Option SparseMatrixView)). OfEach (λ (m : SparseMatrixView). m.assembled) ys) (sym items)
          (each_push (λ (m : SparseMatrixView). m.assembled) all q c.matrices.invariant.assembled c.in_ok-shared_matrix.ensures.assembled);
      count = omega (arith, more, c.matrices.invariant.count);
    }
