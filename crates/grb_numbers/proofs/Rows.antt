-- Worked examples, computed from the definitions: of seven matrices those numbered 2 and 5 were carried over; no vector was.
use Rattle.std.specs.Prelude.{◌≡◌, ℕ, List, refl, true, false, [], ◌∷◌, map, Some, None, Option, Ok, Err}
use Rattle.grb_core.specs.declared.monoid.Monoid.TheVariants as monoid
use Rattle.grb_core.specs.declared.operator.BinaryOp.TheVariants as op
use Rattle.grb_core.specs.declared.refusal.Refusal.TheVariants.{UninitializedObject}
use Rattle.grb_call.specs.declared.call.Call.TheVariants as call
use Rattle.grb_core.specs.declared.descriptor.Descriptor.{Descriptor}
use Rattle.grb_call.specs.declared.ids.MatrixId.{MatrixId}
use Rattle.grb_call.specs.declared.ids.VectorId.{VectorId}
use Rattle.grb_call.specs.declared.reply.Reply.TheVariants as reply
use Rattle.grb_numbers.specs.Inside.{inside, outside_reply}
use Rattle.grb_numbers.specs.Numbers.{CarriedNumbers, NumbersSeen, has_room, inner_number, next_carried, no_number, outer_number}
use Rattle.grb_numbers.specs.Seen.{seen_objects}

abbrev two_of_seven : CarriedNumbers
two_of_seven = record { carried = 2 ∷ 5 ∷ []; first = 7 }

abbrev none_of_four : CarriedNumbers
none_of_four = record { carried = []; first = 4 }

abbrev numbers : NumbersSeen
numbers = record { matrices = two_of_seven; vectors = none_of_four }

abbrev m : ℕ → MatrixId
m n = record { 0 = n }

abbrev v : ℕ → VectorId
v n = record { 0 = n }

abbrev descriptor : Descriptor
descriptor = record { structure = false; comp = false; replace = false; tran = false; tran1 = false }

-- a number that was given before and not carried over has no inner one; those that are given here go on after the two
inner_numbers : map (inner_number two_of_seven) (0 ∷ 2 ∷ 3 ∷ 5 ∷ 6 ∷ 7 ∷ 9 ∷ []) ≡ no_number ∷ 0 ∷ no_number ∷ 1 ∷ no_number ∷ 2 ∷ 4 ∷ []
inner_numbers = refl

outer_numbers : map (outer_number two_of_seven) (0 ∷ 1 ∷ 2 ∷ 3 ∷ []) ≡ 2 ∷ 5 ∷ 7 ∷ 8 ∷ []
outer_numbers = refl

-- the second was freed since, and one was made here
abbrev kept : List (Option ℕ)
kept = Some 30 ∷ None ∷ Some 40 ∷ []

seen : seen_objects two_of_seven kept ≡ None ∷ None ∷ Some 30 ∷ None ∷ None ∷ None ∷ None ∷ Some 40 ∷ []
seen = refl

-- the generation after has the first and the last, which keep their outer numbers
next : next_carried two_of_seven (0 ∷ 2 ∷ []) 3 ≡ record { carried = 2 ∷ 7 ∷ []; first = 8 }
next = refl

a_call_inside : inside numbers (call.EwiseAddMatrix (m 7) (Some (m 5)) None op.Plus (m 2) (m 3) descriptor) ≡ call.EwiseAddMatrix (m 2) (Some (m 1)) None op.Plus (m 0) (m no_number) descriptor
a_call_inside = refl

each_sort_has_its_numbers : inside numbers (call.ReduceRows (v 5) None None monoid.Plus (m 5) descriptor) ≡ call.ReduceRows (v 1) None None monoid.Plus (m 1) descriptor
each_sort_has_its_numbers = refl

what_is_made_is_told_outside : outside_reply numbers (Ok (reply.MadeMatrix (m 2))) ≡ Ok (reply.MadeMatrix (m 7))
what_is_made_is_told_outside = refl

a_vector_is_told_outside : outside_reply numbers (Ok (reply.MadeVector (v 0))) ≡ Ok (reply.MadeVector (v 4))
a_vector_is_told_outside = refl

a_count_is_a_count : outside_reply numbers (Ok (reply.Count 2)) ≡ Ok (reply.Count 2)
a_count_is_a_count = refl

a_refusal_stays : outside_reply numbers (Err UninitializedObject) ≡ Err UninitializedObject
a_refusal_stays = refl

there_is_room : has_room numbers 3 1 65536 ≡ true
there_is_room = refl

there_is_none_at_the_end : has_room numbers 3 4294967291 1 ≡ false
there_is_none_at_the_end = refl
