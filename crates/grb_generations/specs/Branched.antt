-- believed: The objects of a generation that a branch begins with (own), by the numbers that users have.
use Rattle.std.specs.Prelude.{◌≡◌, List, map}
use Rattle.grb_call.specs.declared.call.Call.TheVariants as call
use Rattle.grb_call.specs.declared.ids.MatrixId.{MatrixId}
use Rattle.grb_call.specs.declared.ids.VectorId.{VectorId}
use Rattle.grb_call.specs.History.{store_of}
use Rattle.grb_call.specs.Store.{Store}
use Rattle.grb_context.specs.Chosen.{NamesChosen, chosen_store}
use Rattle.grb_context.specs.Explains.{Answer}
use Rattle.grb_context.specs.Known.{known}
use Rattle.grb_context.specs.declared.NoSuccessor.{NoSuccessor}
use Rattle.grb_context.specs.declared.NoSuccessor.TheVariants as no
use Rattle.grb_numbers.specs.Inside.{inner_matrix, inner_vector, outwards, renamed_object}
use Rattle.grb_numbers.specs.Numbers.{NumbersSeen, no_number}
use Rattle.grb_generations.specs.Seated.{Calls, Seated, Stays}

-- the store of the objects of these numbers, as the member's pass knows them
abbrev pub store_named : Seated → List MatrixId → List VectorId → Store
store_named m matrices vectors = chosen_store (store_of (known m.pass)) (map (inner_matrix m.numbers) matrices) (map (inner_vector m.numbers) vectors)

-- the reason, with the object that it names by the number that users have
abbrev pub named_outside : NumbersSeen → NoSuccessor → NoSuccessor
named_outside n (no.Unmade o) = no.Unmade (renamed_object (outwards n) o)
named_outside n (no.RoomTooSmall needed) = no.RoomTooSmall needed
named_outside n no.OutOfMemory = no.OutOfMemory
named_outside n no.Panic = no.Panic

-- an object to which memory was refused is one of those that were asked for, and is there
pub record NamesAsked (m : Seated) (matrices : List MatrixId) (vectors : List VectorId) (why : NoSuccessor) : Type 0 where
  pub inner : NoSuccessor
  pub chosen : NamesChosen (store_of (known m.pass)) (map (inner_matrix m.numbers) matrices) (map (inner_vector m.numbers) vectors) inner
  pub outer : why ≡ named_outside m.numbers inner

-- the member made one call that only reads, and of which nobody knows the object
pub record IsLook (old new : Seated) : Type 0 where
  pub answer : Answer
  pub calls : Calls old new (call.SizeMatrix (record { 0 = no_number })) answer

-- and then stayed where it sat
pub record LooksFirst (old new : Seated) : Type 0 where
  pub looked : Seated
  pub look : IsLook old looked
  pub stays : Stays looked new
