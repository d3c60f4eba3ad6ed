use borrow.Author.Count.{below_more}
use Rattle.std.proofs.Common.{◌++◌, sym, ap, subst, ◌∙◌, arith, append_assoc}
use Rattle.std.specs.Prelude.{IfSome}
use Rattle.grb_core.specs.Contents.{IsMatrix, IsVector}
use Rattle.grb_call.specs.declared.ids.Object.TheVariants as object
use Rattle.grb_call.specs.Shapes.{object_at}
use Rattle.grb_rebuild.specs.Rebuilt.{matrix_calls, vector_calls}
use Rattle.grb_rebuild.proofs.Numbers.{matrices-more, vectors-more, all_objects, some_is}
use Rattle.grb_rebuild.proofs.store.calls_for.Goals as goal

pub push_matrix-requires : goal.push_matrix-requires
push_matrix-requires c = some_is (λ m. m.now.value.assembled) c.held_matrix.result (c.held_matrix.ensures.assembled ∙ c.requires (object.Matrix (record { 0 = c.matrices.number })))

pub matrices-preserved : goal.matrices-preserved
matrices-preserved c =
    let xs = c.args.state.now.store.matrices in
    let n = c.matrices.number in
    record {
      calls =
          c.in_ok-push_matrix.ensures.calls
          ∙ ap (λ o. c.matrices.calls.items ++ matrix_calls n o) c.held_matrix.ensures.stored
          ∙ ap (λ t. t ++ matrix_calls n (object_at xs n)) c.matrices.invariant.calls
          ∙ sym (matrices-more n xs (omega arith));
      whole = below_more (λ k. IfSome (object_at xs k) IsMatrix) n c.matrices.invariant.whole (subst (λ o. IfSome o IsMatrix) c.held_matrix.ensures.stored c.in_ok-push_matrix.ensures.whole);
    }

pub push_vector-requires : goal.push_vector-requires
push_vector-requires c = some_is (λ v. v.now.value.assembled) c.held_vector.result (c.held_vector.ensures.assembled ∙ c.requires (object.Vector (record { 0 = c.vectors.number })))

pub vectors-preserved : goal.vectors-preserved
vectors-preserved c =
    let xs = c.args.state.now.store.vectors in
    let n = c.vectors.number in
    record {
      calls =
          c.in_ok-push_vector.ensures.calls
          ∙ ap (λ o. c.vectors.calls.items ++ vector_calls n o) c.held_vector.ensures.stored
          ∙ ap (λ t. t ++ vector_calls n (object_at xs n)) c.vectors.invariant.calls
          ∙ append_assoc c.matrices.calls.items _ _
          ∙ ap (λ t. c.matrices.calls.items ++ t) (sym (vectors-more n xs (omega arith)));
      whole = below_more (λ k. IfSome (object_at xs k) IsVector) n c.vectors.invariant.whole (subst (λ o. IfSome o IsVector) c.held_vector.ensures.stored c.in_ok-push_vector.ensures.whole);
    }

pub returns-clause-whole : goal.returns-clause-whole
returns-clause-whole c = record {
  matrices = all_objects IsMatrix c.args.state.now.store.matrices (λ n lt. c.matrices.invariant.whole n (omega arith));
  vectors = all_objects IsVector c.args.state.now.store.vectors (λ n lt. c.vectors.invariant.whole n (omega arith));
}
