-- The first numbers are the same outside and inside.
use Rattle.std.proofs.Common.{◌≡◌, ℕ, ◌<◌, List, length, refl, sym, ap, ◌∙◌, arith, Option, None, Some}
use Rattle.grb_call.specs.declared.call.Call.{Call}
use Rattle.grb_call.specs.declared.call.Call.TheVariants as call
use Rattle.grb_call.specs.declared.term.MatrixTerm.TheVariants as matrix_term
use Rattle.grb_call.specs.declared.term.VectorTerm.TheVariants as vector_term
use Rattle.grb_call.specs.After.{answer}
use Rattle.grb_call.specs.Shapes.{object_at}
use Rattle.grb_numbers.specs.Inside.{Renaming, inwards, outside_reply, renamed}
use Rattle.grb_numbers.specs.Laws.{FirstNumbersKeepAnswers, FirstNumbersKeepCalls, FirstNumbersShowTheStore}
use Rattle.grb_numbers.specs.Numbers.{AreCarried, AreNumbered, no_number, first_numbers, inner_number, nothing_carried, outer_number}
use Rattle.grb_numbers.specs.Seen.{AreNumbersOf, seen_objects}
use Rattle.grb_numbers.proofs.Commuting.{calls_answer_the_same}
use Rattle.grb_numbers.proofs.Lists.{same_objects}
use Rattle.grb_numbers.proofs.Numbering.{inner-here, outer-here}
use Rattle.grb_numbers.proofs.SeenLists.{seen-given, seen-length}

inner-first : (k : ℕ) → inner_number nothing_carried k ≡ k
inner-first k = let is = inner-here nothing_carried k (omega arith) in omega arith

outer-first : (k : ℕ) → outer_number nothing_carried k ≡ k
outer-first k = let is = outer-here nothing_carried k (omega arith) in omega arith

objects-first : {X : Type 0} (xs : List (Option X)) → seen_objects nothing_carried xs ≡ xs
objects-first xs =
    let count = seen-length nothing_carried xs in
    let all = outer-first (length xs) in
    same_objects (seen_objects nothing_carried xs) xs (omega arith) (λ k lt. seen-given nothing_carried xs k (omega arith) ∙ ap (object_at xs) (inner-first k))

pub first_numbers_show_the_store : FirstNumbersShowTheStore
first_numbers_show_the_store s = λ i. record { matrices = objects-first s.matrices i; vectors = objects-first s.vectors i }

-- the same numbers
abbrev pub none : Renaming
none = record { matrix = λ a. a; vector = λ v. v }

pub renamed-none : (c : Call) → renamed none c ≡ c
renamed-none (call.EwiseAddMatrix c None accum op a b d) = refl
renamed-none (call.EwiseAddMatrix c (Some m) accum op a b d) = refl
renamed-none (call.EwiseAddVector w None accum op u v d) = refl
renamed-none (call.EwiseAddVector w (Some m) accum op u v d) = refl
renamed-none (call.EwiseMultMatrix c None accum op a b d) = refl
renamed-none (call.EwiseMultMatrix c (Some m) accum op a b d) = refl
renamed-none (call.EwiseMultVector w None accum op u v d) = refl
renamed-none (call.EwiseMultVector w (Some m) accum op u v d) = refl
renamed-none (call.Mxv w None accum semiring a u d) = refl
renamed-none (call.Mxv w (Some m) accum semiring a u d) = refl
renamed-none (call.Vxm w None accum semiring u a d) = refl
renamed-none (call.Vxm w (Some m) accum semiring u a d) = refl
renamed-none (call.Mxm c None accum semiring a b d) = refl
renamed-none (call.Mxm c (Some m) accum semiring a b d) = refl
renamed-none (call.ReduceRows w None accum monoid a d) = refl
renamed-none (call.ReduceRows w (Some m) accum monoid a d) = refl
renamed-none (call.WriteMatrix c None accum (matrix_term.Transposed a) d) = refl
renamed-none (call.WriteMatrix c (Some m) accum (matrix_term.Transposed a) d) = refl
renamed-none (call.WriteMatrix c None accum (matrix_term.Applied f a) d) = refl
renamed-none (call.WriteMatrix c (Some m) accum (matrix_term.Applied f a) d) = refl
renamed-none (call.WriteMatrix c None accum (matrix_term.Selected t a) d) = refl
renamed-none (call.WriteMatrix c (Some m) accum (matrix_term.Selected t a) d) = refl
renamed-none (call.WriteMatrix c None accum (matrix_term.Kronecker op a b) d) = refl
renamed-none (call.WriteMatrix c (Some m) accum (matrix_term.Kronecker op a b) d) = refl
renamed-none (call.WriteVector w None accum (vector_term.Applied f u) d) = refl
renamed-none (call.WriteVector w (Some m) accum (vector_term.Applied f u) d) = refl
renamed-none (call.WriteVector w None accum (vector_term.Selected t u) d) = refl
renamed-none (call.WriteVector w (Some m) accum (vector_term.Selected t u) d) = refl
renamed-none _ = refl

inwards-first : inwards first_numbers ≡ none
inwards-first = λ i. record { matrix = λ a. record { 0 = inner-first a.0 i }; vector = λ v. record { 0 = inner-first v.0 i } }

pub first_numbers_keep_calls : FirstNumbersKeepCalls
first_numbers_keep_calls c = ap (λ r. renamed r c) inwards-first ∙ renamed-none c

nothing_are_carried : AreCarried nothing_carried
nothing_are_carried = record { rising = λ i j lt j_in. absurd (omega arith); before = λ i i_in. absurd (omega arith) }

first_are_numbered : (made : ℕ) → made < no_number → AreNumbered nothing_carried made
first_are_numbered made room = let is = outer-first made in record { carried = omega arith; room = omega arith }

pub first_numbers_keep_answers : FirstNumbersKeepAnswers
first_numbers_keep_answers s c matrices vectors =
    let are : AreNumbersOf first_numbers s = record {
      numbers = record { matrices = nothing_are_carried; vectors = nothing_are_carried };
      matrices = first_are_numbered (length s.matrices) matrices;
      vectors = first_are_numbered (length s.vectors) vectors;
    } in
    sym (ap (λ d. outside_reply first_numbers (answer s d)) (first_numbers_keep_calls c))
    ∙ sym (calls_answer_the_same first_numbers s c are)
    ∙ ap (λ t. answer t c) (first_numbers_show_the_store s)
