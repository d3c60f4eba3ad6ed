-- believed: What ties the parts of a seat.
use Rattle.std.specs.Prelude.{◌≡◌, ℕ, ◌≤◌, List, vec_capacity}
use Rattle.grb_order.specs.declared.limits.TheConstants.{MOST_PASSES, MOST_WORDS}
use Rattle.grb_order.specs.View.{IsSound}
use Rattle.grb_order.specs.Holding.{Holding}
use Rattle.grb_order.specs.declared.standing.Standing.{Standing}
use Rattle.grb_order.specs.declared.standing.Role.TheVariants.{Seated}
use Rattle.grb_order.specs.declared.seat.Seat.TheInside.{Inside}

abbrev pub holding : Inside → Holding
holding p = record { table_id = p.table_seat.table_id; view = p.table_seat.me.0.view }

-- a seat of a row of `room` words, which keeps its number, how many words there are and those that it has learnt
pub record IsSeatWith (tag size room : ℕ) (words : List ℕ) (capacity : ℕ) (v : Standing) : Type 0 where
  pub role : v.role ≡ Seated
  pub number_is : tag ≡ v.view.number
  pub size_is : size ≡ room
  pub small : room ≤ MOST_WORDS
  pub passes : v.view.passes ≤ MOST_PASSES
  pub words_are : words ≡ v.view.words
  pub roomy : room ≤ capacity
  pub sound : IsSound room v.view

abbrev pub IsSeat : Inside → Type 0
IsSeat p = IsSeatWith p.number p.room p.table_seat.table_id.words p.words.items (vec_capacity p.words) p.table_seat.me.0
