-- believed: What the exports of chains do (own).
use Rattle.std.specs.Prelude.{◌≡◌, ◌⊎◌, ℕ, ℤ, ◌<◌, ◌≤◌, Bool, true, false, List, length, slice_get, slice_index_or, Option, Some, None, Result, Ok, Err}
use mathlib.Core.List.{IsPrefix}
use Rattle.grb_order.specs.Order.{room_of}
use Rattle.grb_context.specs.Known.{known}
use Rattle.grb_generations.specs.Chain.{Chain}
use Rattle.grb_generations.specs.Reasons.{IsNoGeneration, TakesSeat}
use Rattle.grb_generations.specs.declared.reason.NoGeneration.{NoGeneration}
use Rattle.grb_generations.specs.declared.reason.NoGeneration.TheVariants as none
use Rattle.grb_generations.specs.Reserve.{HasPlace}
use Rattle.grb_generations.specs.Seated.{IsAtEnd, Moves, Seated, ShareTheFirst, Stays}
use Rattle.grb_codes.specs.Codes.{insufficient_space, invalid_value, no_value, order_full, out_of_memory, panic, success, uninitialized_object}
use Rattle.grb_c.specs.declared.session.Kind.{Kind}
use Rattle.grb_c.specs.declared.session.Kind.TheVariants as kind
use Rattle.grb_c.specs.Sessions.{Opened}

-- the handle has the member at this place, under this number of its chain
abbrev pub HasMember : List Seated → ℕ → ℕ → Option Opened → Type 0
HasMember members store place h = (m : Seated) × (slice_get members place ≡ Some m) × (h ≡ Some (record { kind = kind.Member m; store = store }))

-- each of these, from a place on, has the member at its place
abbrev pub HaveFrom : ℕ → ℕ → List Seated → List (Option Opened) → Type 0
HaveFrom from store members hs = (k : ℕ) → from ≤ k → k < length hs → HasMember members store k (slice_index_or hs k None)

-- all handles have the members of a new chain of so much room, in the order of their numbers
pub record AreLinked (store room : ℕ) (hs : List (Option Opened)) : Type 0 where
  pub chain : Chain
  pub room_is : chain.room ≡ room
  pub count_is : chain.members ≡ length hs
  pub members : List Seated
  pub share : ShareTheFirst chain members
  pub have : HaveFrom 0 store members hs

-- what is told of the generation: of a member it, and of a bounded store none
abbrev pub TellsGenerationOf : Kind → ℤ → ℕ → ℕ → Type 0
TellsGenerationOf (kind.Member m) code before after = (code ≡ success) × (after ≡ m.generation)
TellsGenerationOf (kind.Bounded p) code before after = (code ≡ invalid_value) × (after ≡ before)

abbrev pub TellsGeneration : Option Opened → ℤ → ℕ → ℕ → Type 0
TellsGeneration (Some s) code before after = TellsGenerationOf s.kind code before after
TellsGeneration None code before after = (code ≡ uninitialized_object) × (after ≡ before)

-- how many more objects there is place for, of a member: none just where its next generation may have no room for one more; a bounded store
-- tells none
abbrev pub TellsObjectsLeftOf : Kind → ℤ → ℕ → ℕ → Type 0
TellsObjectsLeftOf (kind.Member m) code before after = (code ≡ success) × (0 < after → HasPlace m.chain (room_of m.pass.order) (known m.pass)) × (after ≡ 0 → HasPlace m.chain (room_of m.pass.order) (known m.pass) → ⊥)
TellsObjectsLeftOf (kind.Bounded p) code before after = (code ≡ invalid_value) × (after ≡ before)

abbrev pub TellsObjectsLeft : Option Opened → ℤ → ℕ → ℕ → Type 0
TellsObjectsLeft (Some s) code before after = TellsObjectsLeftOf s.kind code before after
TellsObjectsLeft None code before after = (code ≡ uninitialized_object) × (after ≡ before)

-- the status where there is no next generation, or no place for an object more: where another member makes it, that is no refusal
abbrev pub no_generation_code : NoGeneration → ℤ
no_generation_code (none.Unmade object) = out_of_memory
no_generation_code (none.RoomTooSmall needed) = insufficient_space
no_generation_code none.Crowded = insufficient_space
no_generation_code none.NumbersSpent = order_full
no_generation_code none.OutOfMemory = out_of_memory
no_generation_code none.Panic = panic
no_generation_code none.Busy = no_value

-- how many calls make the next generation, where it has no room for one more
abbrev pub calls_out : NoGeneration → ℕ → ℕ
calls_out (none.RoomTooSmall needed) before = needed
calls_out _ before = before

-- what a try to go on leaves: the member moved; or it stayed, since its generation is not full or it does not know all of that; where it was
-- refused, since its generation is full and there is no next one, for this reason, which it keeps
abbrev pub WentOn : Seated → Seated → Result Bool NoGeneration → Type 0
WentOn old new (Ok true) = Moves old new
WentOn old new (Ok false) = Stays old new × (IsAtEnd old.pass → ⊥)
WentOn old new (Err why) = Stays old new × IsAtEnd old.pass × IsNoGeneration old.chain old.numbers old.pass why × (new.reason ≡ Some why)

-- what a try to go on tells: whether the member moved; or why there is no next generation, and how many calls it needs
abbrev pub TellsOn : Result Bool NoGeneration → ℤ → ℕ → ℕ → Bool → Bool → Type 0
TellsOn (Ok moved) code before after was is = (code ≡ success) × (after ≡ before) × (is ≡ moved)
TellsOn (Err why) code before after was is = (code ≡ no_generation_code why) × (after ≡ calls_out why before) × (is ≡ was)

-- a member tries to go on, with all that a chain promises of that, and tells what came of it
pub record TriesOn (old new : Seated) (code : ℤ) (before after : ℕ) (was is : Bool) : Type 0 where
  pub answer : Result Bool NoGeneration
  pub went : WentOn old new answer
  pub tells : TellsOn answer code before after was is

-- so by a handle; a pass of a bounded store has nothing to go on to
abbrev pub KindTriesOn : Kind → Kind → ℤ → ℕ → ℕ → Bool → Bool → Type 0
KindTriesOn (kind.Member old) (kind.Member new) code before after was is = TriesOn old new code before after was is
KindTriesOn (kind.Member old) (kind.Bounded new) code before after was is = ⊥
KindTriesOn (kind.Bounded old) new code before after was is = (code ≡ invalid_value) × (after ≡ before) × (is ≡ was) × (new ≡ kind.Bounded old)

abbrev pub GoesOnBy : Option Opened → Option Opened → ℤ → ℕ → ℕ → Bool → Bool → Type 0
GoesOnBy (Some old) (Some new) code before after was is = (new.store ≡ old.store) × KindTriesOn old.kind new.kind code before after was is
GoesOnBy None None code before after was is = (code ≡ uninitialized_object) × (after ≡ before) × (is ≡ was)
GoesOnBy (Some old) None code before after was is = ⊥
GoesOnBy None (Some new) code before after was is = ⊥

-- a member takes the seat of this number in the chain of the one who asks, in no earlier generation: its page begins with all of that one's
pub record SitsBeside (m : Seated) (number : ℕ) (n : Seated) : Type 0 where
  pub seat : TakesSeat m.chain number n
  pub newest : IsPrefix m.page.told n.page.told

-- the member of this number of the chain is in the handle; or there is none to be had, or memory was refused, and the handle has none
abbrev pub SeatsMember : Seated → ℕ → ℕ → Option Opened → ℤ → Type 0
SeatsMember m store number after code =
    ((code ≡ success) × (n : Seated) × SitsBeside m number n × (after ≡ Some (record { kind = kind.Member n; store = store })))
    ⊎ (((code ≡ no_value) ⊎ (code ≡ out_of_memory)) × (after ≡ None))

abbrev pub SeatsKind : Kind → ℕ → ℕ → Option Opened → ℤ → Type 0
SeatsKind (kind.Member m) store number after code = SeatsMember m store number after code
SeatsKind (kind.Bounded p) store number after code = (code ≡ invalid_value) × (after ≡ None)

-- so of the chain of a handle; a bounded store has no such seat
abbrev pub SeatsFrom : Option Opened → ℕ → Option Opened → ℤ → Type 0
SeatsFrom (Some s) number after code = SeatsKind s.kind s.store number after code
SeatsFrom None number after code = (code ≡ uninitialized_object) × (after ≡ None)
