use Rattle.std.proofs.Common.{◌≡◌, ◌+◌, ◌<◌, List, length, get_or, Option, sym, ap, subst, ◌∙◌, arith}
use Rattle.std.proofs.lemmas.List.{length_push}
use Rattle.grb_sparse.specs.Matrix.{SparseMatrixView}
use Rattle.grb_call.specs.History.{store_of}
use Rattle.grb_call.specs.Store.{matrix_at}
use Rattle.grb_objects.specs.Stored.{stored_matrices, stored_matrix}
use Rattle.grb_results.specs.Exchanged.{OfEach}
use Rattle.grb_results.proofs.Lists.{each_push}
use Rattle.grb_reader.specs.Known.{Knowing, known}
use Rattle.grb_pass.proofs.Choosing.{chosen_more}
use Rattle.grb_pass.proofs.evaluated.Evaluated.chosen_matrices.Goals as goal

pub chosen-preserved : goal.chosen-preserved
chosen-preserved g c =
    let p : Knowing = c.args.reader.now in let all = c.chosen.all.items in let at = c.chosen.at in let q = c.in-Ok.matrix in let items = c.in-Ok-push.ensures.items in
    let near : at < length c.args.chosen.now = omega (arith, c.chosen-test.true, c.chosen.auto.at-end) in
    let more : length c.push.new.self.items ≡ length all + 1 = ap length items ∙ length_push all q in
    record {
      same = c.chosen_matrix.ensures.same ∙ c.chosen.invariant.same;
      evaluated = c.chosen_matrix.ensures.evaluated;
      table = c.chosen_matrix.ensures.table;
      stored = ap (λ (ys : List (Option SparseMatrixView)). stored_matrices ys) items
          ∙ chosen_more stored_matrix (matrix_at (store_of (known p))) all q c.args.chosen.now at (record { 0 = 0 }) c.chosen.invariant.stored near
          (c.in-Ok.ensures.stored ∙ ap (λ (k : Knowing). matrix_at (store_of (known k)) (get_or c.args.chosen.now at (record { 0 = 0 }))) c.chosen.invariant.same);
      assembled = subst (λ (ys : List (Option SparseMatrixView)). OfEach (λ (m : SparseMatrixView). m.assembled) ys) (sym items)
          (each_push (λ (m : SparseMatrixView). m.assembled) all q c.chosen.invariant.assembled c.in-Ok.ensures.assembled);
      count = omega (arith, more, c.chosen.invariant.count);
    }
