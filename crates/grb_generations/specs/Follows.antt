-- believed: Which generation comes after which (own): the later one begins with the objects that the earlier one leaves at its end, under
-- numbers by which they are seen as they were.
use Rattle.std.specs.Prelude.{◌≡◌, List, [], length}
use Rattle.grb_order.specs.Holding.{TableId}
use Rattle.grb_order.specs.Order.{room_of}
use Rattle.grb_order.specs.View.{fresh}
use Rattle.grb_call.specs.History.{store_of}
use Rattle.grb_context.specs.Known.{IsPassOf, Knowing, known, new_pass}
use Rattle.grb_context.specs.Succeeding.{AreBegun}
use Rattle.grb_numbers.specs.Numbers.{first_numbers}
use Rattle.grb_numbers.specs.Seen.{AreNumbersOf}
use Rattle.grb_generations.specs.Keeping.{Began, IsAtEnd, Suffice, kept_numbers, kept_store}
use Rattle.grb_generations.specs.declared.told.Told.{Told}

-- a pass of the earlier one knew all that its history takes, which began with the objects of that; the passes of the later one, as many as
-- the earlier one has, begin with the store of the objects that this leaves, and no others; their numbers are carried over, and suffice for
-- all that the later history takes
pub record Follows (earlier later : Told) : Type 0 where
  pub pass : IsPassOf earlier.context later.last
  pub end : IsAtEnd later.last
  pub went_on : Began earlier later.last
  pub numbered : AreNumbersOf earlier.numbers (store_of (known later.last))
  pub passes : List Knowing
  pub count : length passes ≡ later.last.view.passes
  pub begun : AreBegun later.context (kept_store (store_of (known later.last))) (length passes) passes
  pub numbers_are : later.numbers ≡ kept_numbers earlier.numbers (store_of (known later.last))
  pub suffices : Suffice later.numbers (room_of later.context.order)

-- an order of no room
abbrev pub no_order : TableId
no_order = record { words = 0; slots = 0; views_name = 0; atom = 0; block = 0; offset = 0; slot_names = [] }

-- what is named where no generation is told of
abbrev pub any_told : Told
any_told = record { context = record { order = no_order; records = [] }; numbers = first_numbers; last = new_pass no_order (fresh 0 0) }
