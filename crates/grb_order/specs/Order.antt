-- believed: What an order is opened with.
use Rattle.std.specs.Prelude.{◌≡◌, ℕ, ◌<◌, List, length, Some, slice_get}
use Rattle.atomic_table.specs.Seated.{TableId}
use Rattle.grb_order.specs.View.{fresh}
use Rattle.grb_order.specs.Holding.{Holding}

-- how many words the order has
abbrev pub room_of : TableId → ℕ
room_of order = order.words

-- the first seats of an order, by their numbers, which have learnt no word
pub record AreFresh (order : TableId) (passes : ℕ) (seats : List Holding) (upto : ℕ) : Type 0 where
  pub count : length seats ≡ upto
  pub each : (number : ℕ) → number < upto → slice_get seats number ≡ Some (record { table_id = order; view = fresh number passes })
