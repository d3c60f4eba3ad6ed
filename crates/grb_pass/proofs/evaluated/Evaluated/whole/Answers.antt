use Rattle.std.proofs.Common.{◌≡◌, ℕ, List, length, ap, subst, ◌∙◌, arith, IfOk}
use Rattle.std.specs.Option.{option_map}
use Rattle.std.proofs.lemmas.List.{length-map}
use Rattle.grb_call.specs.declared.ids.MatrixId.{MatrixId}
use Rattle.grb_call.specs.declared.ids.VectorId.{VectorId}
use Rattle.grb_call.specs.History.{store_of}
use Rattle.grb_call.specs.Shapes.{ObjectShapes}
use Rattle.grb_call.specs.Store.{Store, matrix_shape, vector_shape}
use Rattle.grb_reader.specs.Known.{known}
use Rattle.grb_reader.specs.LiveNumbers.{matrix_ids, numbers_below, vector_ids}
use Rattle.grb_pass.specs.Chosen.{chosen_store}
use Rattle.grb_pass.proofs.Choosing.{chosen_all, length-matrix_ids, length-vector_ids}
use Rattle.grb_pass.proofs.evaluated.Evaluated.whole.Goals as goal

pub chosen-requires-clause-matrices : goal.chosen-requires-clause-matrices
chosen-requires-clause-matrices g c = omega (arith, ap length c.as_slice.ensures.value, ap length c.in-Ok.ensures, length-matrix_ids c.matrices.result, c.matrices.type_inv)

pub chosen-requires-clause-vectors : goal.chosen-requires-clause-vectors
chosen-requires-clause-vectors g c = omega (arith, ap length c.as_slice-2.ensures.value, ap length c.in-Ok-all_vectors.ensures, length-vector_ids c.vectors.result, c.vectors.type_inv)

pub returns-clause-store : goal.returns-clause-store
returns-clause-store g c =
    let s : Store = store_of (known c.args.reader.now) in
    let matrix_count : c.matrices.result ≡ length s.matrices = c.matrices.ensures ∙ ap (λ (o : ObjectShapes). length o.matrices) c.shapes.ensures ∙ length-map s.matrices (option_map matrix_shape) in
    let vector_count : c.vectors.result ≡ length s.vectors = c.vectors.ensures ∙ ap (λ (o : ObjectShapes). length o.vectors) c.shapes-2.ensures ∙ length-map s.vectors (option_map vector_shape) in
    let matrices : c.as_slice.result.now ≡ matrix_ids (numbers_below (length s.matrices)) = c.as_slice.ensures.value ∙ c.in-Ok.ensures ∙ ap (λ (n : ℕ). matrix_ids (numbers_below n)) matrix_count in
    let vectors : c.as_slice-2.result.now ≡ vector_ids (numbers_below (length s.vectors)) = c.as_slice-2.ensures.value ∙ c.in-Ok-all_vectors.ensures ∙ ap (λ (n : ℕ). vector_ids (numbers_below n)) vector_count in
    subst (λ (t : Store). IfOk c.chosen.result (λ state. state.store ≡ t)) ((λ i. chosen_store s (matrices i) (vectors i)) ∙ chosen_all s) c.chosen.ensures.store
