-- Calls on a store as it is seen from outside, and on the store.
use Rattle.std.proofs.Common.{◌≡◌, ℕ, suc, ◌+◌, ◌<◌, ◌≤◌, ltb-true, ◌++◌, true, List, [], ◌∷◌, length, refl, sym, ap, subst, ◌∙◌, arith, Option, None, Some, option_map, slice_set}
use Rattle.std.specs.List.{list_all}
use Rattle.std.specs.Option.{option_map_or}
use Rattle.std.proofs.lemmas.Bool.{and_parts}
use Rattle.grb_core.specs.declared.refusal.Refusal.{Refusal}
use Rattle.grb_core.specs.Contents.{Matrix, Vector}
use Rattle.grb_core.specs.Maps.{diagonal_matrix}
use Rattle.grb_call.specs.declared.call.Call.{Call}
use Rattle.grb_call.specs.declared.call.Call.TheVariants as call
use Rattle.grb_call.specs.declared.ids.MatrixId.{MatrixId}
use Rattle.grb_call.specs.declared.ids.VectorId.{VectorId}
use Rattle.grb_call.specs.declared.ids.Object.{Object}
use Rattle.grb_call.specs.declared.ids.Object.TheVariants as object
use Rattle.grb_call.specs.After.{refused, changed, output_changed, after, answer}
use Rattle.grb_call.specs.History.{after_all}
use Rattle.grb_call.specs.Numbers.{next_matrix, next_vector}
use Rattle.grb_call.specs.Operands.{masks}
use Rattle.grb_call.specs.Output.{output_of, matrix_left, vector_left}
use Rattle.grb_call.specs.Shapes.{is_live}
use Rattle.grb_call.specs.Store.{Store, shapes_of, matrix_at, vector_at, matrix_shape, vector_shape, with_matrix, with_vector}
use Rattle.grb_call.proofs.Counted.{matrices_after_all, vectors_after_all}
use Rattle.grb_call.proofs.ObjectsAfter.{matrix_counts, vector_counts}
use Rattle.grb_call.proofs.Operations.{there}
use Rattle.grb_call.proofs.Outputs.{output-first}
use Rattle.grb_call.proofs.Passed.{has_passed}
use Rattle.grb_numbers.specs.Inside.{inside, inwards, outwards, outside_reply, renamed_object}
use Rattle.grb_numbers.specs.Laws.{CallsAnswerTheSame, CallsAreRefusedAlike, CallsLeaveTheSame, CommuteAll, HistoriesLeaveTheSame}
use Rattle.grb_numbers.specs.Numbers.{AreCarried, AreNumbered, CarriedNumbers, NumbersSeen, no_number, outer_number}
use Rattle.grb_numbers.specs.Seen.{AreNumbersOf, seen_store}
use Rattle.grb_numbers.proofs.Numbering.{made-small, outer-here}
use Rattle.grb_numbers.proofs.Renamed.{output_of-renamed}
use Rattle.grb_numbers.proofs.Same.{HoldsSame, refused-same}
use Rattle.grb_numbers.proofs.SameObjects.{answer-same, matrix_left-same, vector_left-same}
use Rattle.grb_numbers.proofs.SeenLists.{seen-at, seen-length, seen-push, seen-set}

module _ (n : NumbersSeen) (s : Store) (are : AreNumbersOf n s) where
  abbrev t : Store
  t = seen_store n s

  holds : HoldsSame t s (inwards n)
  holds = record {
    matrix = λ a. seen-at n.matrices are.numbers.matrices s.matrices are.matrices a.0;
    vector = λ v. seen-at n.vectors are.numbers.vectors s.vectors are.vectors v.0;
  }

  pub refused-seen : (c : Call) → refused t c ≡ refused s (inside n c)
  refused-seen c = refused-same t s (inwards n) holds c

  -- the next numbers, outside and inside
  next_matrix-seen : next_matrix t ≡ (outwards n).matrix (next_matrix s)
  next_matrix-seen = ap (λ (k : ℕ). record { 0 = k }) (seen-length n.matrices s.matrices ∙ sym (made-small n.matrices (length s.matrices) are.matrices))

  next_vector-seen : next_vector t ≡ (outwards n).vector (next_vector s)
  next_vector-seen = ap (λ (k : ℕ). record { 0 = k }) (seen-length n.vectors s.vectors ∙ sym (made-small n.vectors (length s.vectors) are.vectors))

  pub answer-seen : (c : Call) → answer t c ≡ outside_reply n (answer s (inside n c))
  answer-seen c = answer-same t s (inwards n) holds (outwards n) next_matrix-seen next_vector-seen c

  abbrev store : List (Option Matrix) → List (Option Vector) → Store
  store ms vs = record { matrices = ms; vectors = vs }

  with_matrix-seen : (m : Option Matrix) → with_matrix t m ≡ seen_store n (with_matrix s m)
  with_matrix-seen m = ap (λ ms. store ms t.vectors) (seen-push n.matrices are.numbers.matrices s.matrices are.matrices m)

  with_vector-seen : (x : Option Vector) → with_vector t x ≡ seen_store n (with_vector s x)
  with_vector-seen x = ap (λ vs. store t.matrices vs) (seen-push n.vectors are.numbers.vectors s.vectors are.vectors x)

  -- the output of a call that is not refused is there
  live : (c : Call) (o : Object) → refused t c ≡ None → output_of c ≡ Some o → is_live (shapes_of t) o ≡ true
  live c o taken is =
      let first = output-first c o is in
      let all = subst (λ (os : List Object). list_all (is_live (shapes_of t)) (os ++ masks c) ≡ true) first.1 (has_passed t c taken).initialized in
      (and_parts _ _ all).0

  matrix_output : (c : Call) (a : MatrixId) → is_live (shapes_of t) (object.Matrix a) ≡ true → output_changed t c (Some (object.Matrix a)) ≡ seen_store n (output_changed s (inside n c) (Some (object.Matrix ((inwards n).matrix a))))
  matrix_output c a is =
      let at = there matrix_shape t.matrices a.0 is in
      let left : matrix_left t c (matrix_at t a) ≡ matrix_left s (inside n c) (matrix_at s ((inwards n).matrix a)) =
      (λ i. matrix_left-same t s (inwards n) holds c (matrix_at t a) i) ∙ ap (matrix_left s (inside n c)) (holds.matrix a) in
      (λ i. store (slice_set t.matrices a.0 (left i)) t.vectors)
      ∙ ap (λ ms. store ms t.vectors) (seen-set n.matrices are.numbers.matrices s.matrices are.matrices a.0 at.0 at.1 (matrix_left s (inside n c) (matrix_at s ((inwards n).matrix a))))

  vector_output : (c : Call) (v : VectorId) → is_live (shapes_of t) (object.Vector v) ≡ true → output_changed t c (Some (object.Vector v)) ≡ seen_store n (output_changed s (inside n c) (Some (object.Vector ((inwards n).vector v))))
  vector_output c v is =
      let at = there vector_shape t.vectors v.0 is in
      let left : vector_left t c (vector_at t v) ≡ vector_left s (inside n c) (vector_at s ((inwards n).vector v)) =
      (λ i. vector_left-same t s (inwards n) holds c (vector_at t v) i) ∙ ap (vector_left s (inside n c)) (holds.vector v) in
      (λ i. store t.matrices (slice_set t.vectors v.0 (left i)))
      ∙ ap (λ vs. store t.matrices vs) (seen-set n.vectors are.numbers.vectors s.vectors are.vectors v.0 at.0 at.1 (vector_left s (inside n c) (vector_at s ((inwards n).vector v))))

  output_by : (c : Call) (q : Option Object) → ((o : Object) → q ≡ Some o → is_live (shapes_of t) o ≡ true) →
      output_changed t c q ≡ seen_store n (output_changed s (inside n c) (option_map (renamed_object (inwards n)) q))
  output_by c None is = refl
  output_by c (Some (object.Matrix a)) is = matrix_output c a (is (object.Matrix a) refl)
  output_by c (Some (object.Vector v)) is = vector_output c v (is (object.Vector v) refl)

  output-seen : (c : Call) → refused t c ≡ None → output_changed t c (output_of c) ≡ seen_store n (output_changed s (inside n c) (output_of (inside n c)))
  output-seen c taken =
      output_by c (output_of c) (λ o is. live c o taken is) ∙ ap (λ q. seen_store n (output_changed s (inside n c) q)) (sym (output_of-renamed (inwards n) c))

  changed-seen : (c : Call) → refused t c ≡ None → changed t c ≡ seen_store n (changed s (inside n c))
  changed-seen (call.NewMatrix domain nrows ncols) taken = with_matrix-seen _
  changed-seen (call.NewVector domain size) taken = with_vector-seen _
  changed-seen (call.DupMatrix a) taken = (λ i. with_matrix t (holds.matrix a i)) ∙ with_matrix-seen _
  changed-seen (call.DupVector v) taken = (λ i. with_vector t (holds.vector v i)) ∙ with_vector-seen _
  changed-seen (call.Diag v diagonal) taken = (λ i. with_matrix t (option_map (diagonal_matrix diagonal) (holds.vector v i))) ∙ with_matrix-seen _
  changed-seen c taken = output-seen c taken

  after_by : (o p : Option Refusal) (x y : Store) → o ≡ p → (o ≡ None → x ≡ seen_store n y) → option_map_or (λ _. t) o x ≡ seen_store n (option_map_or (λ _. s) p y)
  after_by None None x y e h = h refl
  after_by None (Some r) x y e h = cc
  after_by (Some r) None x y e h = cc
  after_by (Some r) (Some q) x y e h = refl

  pub after-seen : (c : Call) → after t c ≡ seen_store n (after s (inside n c))
  after-seen c = after_by (refused t c) (refused s (inside n c)) (changed t c) (changed s (inside n c)) (refused-seen c) (λ taken. changed-seen c taken)

pub calls_are_refused_alike : CallsAreRefusedAlike
calls_are_refused_alike n s c are = refused-seen n s are c

pub calls_answer_the_same : CallsAnswerTheSame
calls_answer_the_same n s c are = answer-seen n s are c

pub calls_leave_the_same : CallsLeaveTheSame
calls_leave_the_same n s c are = after-seen n s are c

-- calls in turn
module _ (n : NumbersSeen) where
  -- one call more, where there is room for so many
  rest_numbered : (m : CarriedNumbers) (are : AreCarried m) (old new more : ℕ) → AreNumbered m old → old ≤ new → new ≤ old + 1 → outer_number m old + suc more < no_number →
      AreNumbered m new × (outer_number m new + more < no_number)
  rest_numbered m are old new more numbered above below room =
      let this = outer-here m old numbered.carried in
      let carried = numbered.carried in
      let that = outer-here m new (omega arith) in
      (record { carried = omega arith; room = omega arith }, omega arith)

  pub in_turn : (s : Store) (cs : List Call) → AreNumbersOf n s → outer_number n.matrices (length s.matrices) + length cs < no_number → outer_number n.vectors (length s.vectors) + length cs < no_number → CommuteAll n s cs
  in_turn s [] are matrices vectors = record { numbers = are; store = refl }
  in_turn s (c ∷ cs) are matrices vectors =
      let d = inside n c in
      let ms = rest_numbered n.matrices are.numbers.matrices (length s.matrices) (length (after s d).matrices) (length cs) are.matrices (matrix_counts s d) (matrices_after_all s (d ∷ [])) matrices in
      let vs = rest_numbered n.vectors are.numbers.vectors (length s.vectors) (length (after s d).vectors) (length cs) are.vectors (vector_counts s d) (vectors_after_all s (d ∷ [])) vectors in
      let rest = in_turn (after s d) cs (record { numbers = are.numbers; matrices = ms.0; vectors = vs.0 }) ms.1 vs.1 in
      record { numbers = rest.numbers; store = ap (λ t. after_all t cs) (calls_leave_the_same n s c are) ∙ rest.store }

pub histories_leave_the_same : HistoriesLeaveTheSame
histories_leave_the_same n s cs are room =
    let parts = and_parts _ _ room in
    in_turn n s cs are (ltb-true _ _ parts.0) (ltb-true _ _ parts.1)
