-- believed: Why there is no next generation (own): what holds of the store at the end of which a member stands.
use Rattle.std.specs.Prelude.{◌≡◌, ◌≤◌, ◌++◌, ℕ, true, None, IfSome}
use Rattle.grb_order.specs.Order.{room_of}
use Rattle.grb_call.specs.History.{History, store_of}
use Rattle.grb_call.specs.Shapes.{is_live}
use Rattle.grb_call.specs.Store.{shapes_of}
use Rattle.grb_call.specs.declared.ids.Object.{Object}
use Rattle.grb_context.specs.Chosen.{IsNoSuccessor, room_beside}
use Rattle.grb_context.specs.Known.{IsPassOf, Knowing, known}
use Rattle.grb_context.specs.declared.NoSuccessor.TheVariants as no
use Rattle.grb_numbers.specs.Inside.{outwards, renamed_object}
use Rattle.grb_numbers.specs.Numbers.{NumbersSeen}
use Rattle.grb_generations.specs.Chain.{Chain}
use Rattle.grb_generations.specs.Keeping.{AreNumbersFor, Began, Suffice, kept_numbers, kept_store}
use Rattle.grb_generations.specs.Placed.{IsPlaced}
use Rattle.grb_generations.specs.Reserve.{HasPlace}
use Rattle.grb_generations.specs.declared.reason.NoGeneration.{NoGeneration}
use Rattle.grb_generations.specs.declared.reason.NoGeneration.TheVariants as none
use Rattle.grb_generations.specs.Seated.{IsAtEnd, Seated}

-- an object that is there after this history, by the number that users have
pub record IsThereAs (n : NumbersSeen) (h : History) (o : Object) : Type 0 where
  pub inner : Object
  pub there : is_live (shapes_of (store_of h)) inner ≡ true
  pub named : o ≡ renamed_object (outwards n) inner

-- no history takes the objects that are there with the chain's room beside the calls that make them, which are so many
abbrev pub HasNoRoom : Chain → History → ℕ → Type 0
HasNoRoom chain h needed = IsNoSuccessor chain.room chain.members (kept_store (store_of h)) (no.RoomTooSmall needed)

-- such a history could give a number that no object may have
abbrev pub HasSpent : Chain → NumbersSeen → History → Type 0
HasSpent chain n h = Suffice (kept_numbers n (store_of h)) (room_beside (kept_store (store_of h)) chain.room) → ⊥

-- at some moment that the pass knows, one object more could have left no room for the next generation
pub record WasCrowded (chain : Chain) (p : Knowing) : Type 0 where
  pub before : History
  pub rest : History
  pub known_is : known p ≡ before ++ rest
  pub none : HasPlace chain (room_of p.order) before → ⊥

-- the pass knows a full history, and this holds at its end; or an object was not made, since there was no place; or memory, a record or the place is not to be had
abbrev pub IsNoGeneration : Chain → NumbersSeen → Knowing → NoGeneration → Type 0
IsNoGeneration chain n p (none.Unmade o) = IsAtEnd p × IsThereAs n (known p) o
IsNoGeneration chain n p (none.RoomTooSmall needed) = IsAtEnd p × HasNoRoom chain (known p) needed
IsNoGeneration chain n p none.Crowded = WasCrowded chain p
IsNoGeneration chain n p none.NumbersSpent = IsAtEnd p × HasSpent chain n (known p)
IsNoGeneration chain n p none.OutOfMemory = Unit {0}
IsNoGeneration chain n p none.Panic = Unit {0}
IsNoGeneration chain n p none.Busy = Unit {0}

-- what each member keeps: its generation stands in the chain's chronicle; its pass is one of the store of that, of as many as the chain has
-- members, and went on with what is told there; the store takes at least the chain's room; its numbers are those of the objects there; and
-- why it did not go on from there is still true
pub record IsMember (m : Seated) : Type 0 where
  pub placed : IsPlaced m.chain.book m.context m.numbers m.generation m.page
  pub pass : IsPassOf m.context m.pass
  pub passes : m.pass.view.passes ≡ m.chain.members
  pub began : Began placed.here.own m.pass
  pub room : m.chain.room ≤ room_of m.context.order
  pub numbers : AreNumbersFor m.numbers m.pass
  pub reason : IfSome m.reason (IsNoGeneration m.chain m.numbers m.pass)

-- a member that takes the seat of this number anew: that of a generation that stands in the chain's chronicle, with a pass that went on with
-- what is told there
pub record TakesSeat (chain : Chain) (number : ℕ) (m : Seated) : Type 0 where
  pub chain_is : m.chain ≡ chain
  pub number_is : m.pass.view.number ≡ number
  pub placed : IsPlaced chain.book m.context m.numbers m.generation m.page
  pub pass : IsPassOf m.context m.pass
  pub began : Began placed.here.own m.pass
  pub room : chain.room ≤ room_of m.context.order
  pub reason : m.reason ≡ None
