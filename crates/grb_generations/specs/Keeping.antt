-- believed: What a generation hands on to the next (own): the objects that are there, with numbers by which they are seen as before.
use Rattle.std.specs.Prelude.{◌≡◌, ◌<◌, ◌≤◌, ℕ, List, length}
use Rattle.grb_order.specs.Order.{room_of}
use Rattle.grb_call.specs.declared.call.Call.{Call}
use Rattle.grb_call.specs.History.{after_all, store_of}
use Rattle.grb_call.specs.Store.{Store}
use Rattle.grb_context.specs.Chosen.{chosen_store}
use Rattle.grb_context.specs.Known.{Knowing, known}
use Rattle.grb_context.specs.LiveNumbers.{live_numbers, matrix_ids, vector_ids}
use Rattle.grb_numbers.specs.Laws.{next_numbers}
use Rattle.grb_numbers.specs.Numbers.{AreNumbers, NumbersSeen, no_number, outer_number}
use Rattle.grb_generations.specs.declared.told.Told.{Told}

-- the store of the objects that are there, in their order, with the numbers 0, 1, 2 .. anew
abbrev pub kept_store : Store → Store
kept_store s = chosen_store s (matrix_ids (live_numbers s.matrices)) (vector_ids (live_numbers s.vectors))

-- the numbers by which that is seen as this store is by these
abbrev pub kept_numbers : NumbersSeen → Store → NumbersSeen
kept_numbers n s = next_numbers n s (matrix_ids (live_numbers s.matrices)) (vector_ids (live_numbers s.vectors))

-- a history of so many calls gives no number that no object may have
pub record Suffice (n : NumbersSeen) (room : ℕ) : Type 0 where
  pub matrices : outer_number n.matrices room < no_number
  pub vectors : outer_number n.vectors room < no_number

-- these are numbers for all that the pass will know: each object that was carried over is there, or was freed
pub record AreNumbersFor (n : NumbersSeen) (p : Knowing) : Type 0 where
  pub are : AreNumbers n
  pub matrices : length n.matrices.carried ≤ length (store_of (known p)).matrices
  pub vectors : length n.vectors.carried ≤ length (store_of (known p)).vectors
  pub suffice : Suffice n (room_of p.order)

-- what the pass knows leaves what some calls leave of the objects with which the generation began that is told
abbrev pub Began : Told → Knowing → Type 0
Began told p = (rest : List Call) × (store_of (known p) ≡ after_all (kept_store (store_of (known told.last))) rest)

-- the pass knows as many calls as its history takes
abbrev pub IsAtEnd : Knowing → Type 0
IsAtEnd p = length (known p) ≡ room_of p.order
