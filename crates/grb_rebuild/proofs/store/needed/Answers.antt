use Rattle.std.proofs.Common.{◌≡◌, ℕ, ◌+◌, ◌≤◌, length, sym, ap, ◌∙◌, arith, length-append}
use Rattle.std.specs.Prelude.{take, is_some, if◌then◌else◌, ◌==◌}
use Rattle.grb_call.specs.Shapes.{object_at}
use Rattle.grb_rebuild.specs.Rebuilt.{matrix_calls, matrices_calls, vector_calls, vectors_calls}
use Rattle.grb_rebuild.proofs.Numbers.{matrices-more, vectors-more, matrix_count, vector_count, one_or_two, is_there}
use Rattle.grb_rebuild.proofs.store.needed.Goals as goal

pub matrices-preserved : goal.matrices-preserved
matrices-preserved c =
    let xs = c.args.state.now.store.matrices in
    let n = c.matrices.number in
    let there : c.is_some.result ≡ is_some (object_at xs n) = c.is_some.ensures ∙ is_there (λ m. m.now.matrix) c.matrix.result (object_at xs n) c.matrix.ensures.stored in
    let count : c.calls_at-calls.result ≡ length (matrix_calls n (object_at xs n)) =
    c.calls_at-calls.ensures
    ∙ ap (λ b. if b then (if c.nvals.result == 0 then 1 else 2) else 2) there
    ∙ ap (λ (k : ℕ). if is_some (object_at xs n) then (if k == 0 then 1 else 2) else 2) c.nvals.ensures
    ∙ sym (matrix_count n (object_at xs n)) in
    let more : length (matrices_calls 0 (take (n + 1) xs)) ≡ length (matrices_calls 0 (take n xs)) + length (matrix_calls n (object_at xs n)) =
    ap length (matrices-more n xs (omega arith)) ∙ length-append (matrices_calls 0 (take n xs)) (matrix_calls n (object_at xs n)) in
    let range : (1 ≤ c.calls_at-calls.result) × (c.calls_at-calls.result ≤ 2) = rw c.calls_at-calls.ensures (one_or_two c.is_some.result c.nvals.result) in
    record {
      calls = omega (arith, more, count, c.matrices.invariant.calls);
      least = omega (arith, range.0, c.matrices.invariant.least);
      most = omega (arith, range.1, c.matrices.invariant.most);
    }

pub vectors-preserved : goal.vectors-preserved
vectors-preserved c =
    let xs = c.args.state.now.store.vectors in
    let n = c.vectors.number in
    let there : c.is_some-in-vectors.result ≡ is_some (object_at xs n) = c.is_some-in-vectors.ensures ∙ is_there (λ v. v.now.vector) c.vector.result (object_at xs n) c.vector.ensures.stored in
    let count : c.calls_at-calls-in-vectors.result ≡ length (vector_calls n (object_at xs n)) =
    c.calls_at-calls-in-vectors.ensures
    ∙ ap (λ b. if b then (if c.nvals-in-vectors.result == 0 then 1 else 2) else 2) there
    ∙ ap (λ (k : ℕ). if is_some (object_at xs n) then (if k == 0 then 1 else 2) else 2) c.nvals-in-vectors.ensures
    ∙ sym (vector_count n (object_at xs n)) in
    let more : length (vectors_calls 0 (take (n + 1) xs)) ≡ length (vectors_calls 0 (take n xs)) + length (vector_calls n (object_at xs n)) =
    ap length (vectors-more n xs (omega arith)) ∙ length-append (vectors_calls 0 (take n xs)) (vector_calls n (object_at xs n)) in
    let range : (1 ≤ c.calls_at-calls-in-vectors.result) × (c.calls_at-calls-in-vectors.result ≤ 2) = rw c.calls_at-calls-in-vectors.ensures (one_or_two c.is_some-in-vectors.result c.nvals-in-vectors.result) in
    record {
      calls = omega (arith, more, count, c.vectors.invariant.calls);
      least = omega (arith, range.0, c.vectors.invariant.least);
      most = omega (arith, range.1, c.vectors.invariant.most);
    }
