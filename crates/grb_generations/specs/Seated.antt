-- believed: What a contract sees of a member of a chain of stores, and what stands behind its move to a later generation (own).
use Rattle.std.specs.Prelude.{◌≡◌, ◌⊎◌, ℕ, ◌<◌, ◌+◌, ◌++◌, false, List, [], length, Option, Some, Err, slice_get}
use mathlib.Core.List.{IsPrefix}
use Rattle.grb_chronicle.specs.Linked.{Reached}
use Rattle.grb_core.specs.declared.refusal.Refusal.TheVariants.{OrderFull}
use Rattle.grb_order.specs.Order.{room_of}
use Rattle.grb_call.specs.Kinds.{class_of}
use Rattle.grb_call.specs.declared.class.Class.TheVariants.{Makes}
use Rattle.grb_call.specs.declared.call.Call.{Call}
use Rattle.grb_call.specs.History.{after_all, store_of}
use Rattle.grb_call.specs.Store.{Store}
use Rattle.grb_context.specs.Known.{IsPassOf, Shared, Knowing, known}
use Rattle.grb_context.specs.Explains.{Answer, is_entered}
use Rattle.grb_context.specs.Answered.{Answered}
use Rattle.grb_context.specs.Succeeding.{BeginsWith}
use Rattle.grb_numbers.specs.Inside.{inside, outside_reply}
use Rattle.grb_numbers.specs.Numbers.{NumbersSeen, first_numbers}
use Rattle.grb_numbers.specs.Seen.{seen_store}
use Rattle.grb_generations.specs.Chain.{Chain}
pub use Rattle.grb_generations.specs.Keeping.{IsAtEnd}
use Rattle.grb_generations.specs.Keeping.{AreNumbersFor, kept_store}
use Rattle.grb_generations.specs.Placed.{IsPlaced}
use Rattle.grb_generations.specs.Reserve.{HasPlace}
use Rattle.grb_generations.specs.declared.reason.NoGeneration.{NoGeneration}
use Rattle.grb_generations.specs.declared.site.Site.{Site}
use Rattle.grb_generations.specs.declared.told.Told.{Told}

-- where a member sits: the chain, a page of its chronicle with the generations up to its own, the store of that, the numbers by which it
-- is seen, the member's pass of that store, the generation's number, and why its last try to go on from there failed
pub record Seated : Type 0 where
  pub chain : Chain
  pub page : Reached Told
  pub context : Shared
  pub numbers : NumbersSeen
  pub pass : Knowing
  pub generation : ℕ
  pub reason : Option NoGeneration

-- what the members of one generation share: the chain's room, the store, its numbers, the number of the generation, and the site of its
-- slots
pub record Standing : Type 0 where
  pub room : ℕ
  pub context : Shared
  pub numbers : NumbersSeen
  pub generation : ℕ
  pub site : Site

-- a generation that the chain shows, with a page whose last it is
pub record Showing : Type 0 where
  pub next : Standing
  pub page : Reached Told

-- The pass goes on with the generation that is told: it is one of its store, of so many passes, and knows the calls that make the objects
-- anew which were there where the pass that is told with it ended, and no others. The history takes this room beside those calls
pub record GoesOn (room members : ℕ) (told : Told) (p : Knowing) : Type 0 where
  pub at_end : IsAtEnd told.last
  pub begins : BeginsWith told.context (kept_store (store_of (known told.last))) p.view.number p
  pub passes_are : p.view.passes ≡ members
  pub numbered : AreNumbersFor told.numbers p
  pub room_is : room_of told.context.order ≡ length (known p) + room

-- the store that the member's pass knows, as users see it
abbrev pub seen_of : Seated → Store
seen_of m = seen_store m.numbers (store_of (known m.pass))

-- Nothing is lost: what the member sees later is what it saw, with some calls, and then these, made on it
abbrev pub Keeps : Seated → Seated → List Call → Type 0
Keeps old new cs = (learnt : List Call) × (seen_of new ≡ after_all (seen_of old) (learnt ++ cs))

-- a member of this chain that sits in the first generation, with the pass of this number of this store, and knows no call; numbers are the
-- same outside
pub record IsNewMember (chain : Chain) (context : Shared) (number : ℕ) (m : Seated) : Type 0 where
  pub chain_is : m.chain ≡ chain
  pub context_is : m.context ≡ context
  pub number_is : m.pass.view.number ≡ number
  pub generation : m.generation ≡ 0
  pub numbers : m.numbers ≡ first_numbers
  pub none : known m.pass ≡ []

-- the first members of this chain, by their numbers, all of which share this store
pub record AreNewMembers (chain : Chain) (context : Shared) (opened : List Seated) (upto : ℕ) : Type 0 where
  pub count : length opened ≡ upto
  pub each : (number : ℕ) (m : Seated) → slice_get opened number ≡ Some m → IsNewMember chain context number m

-- all members of a new chain: they share one store, which takes as many calls as each generation
pub record ShareTheFirst (chain : Chain) (opened : List Seated) : Type 0 where
  pub context : Shared
  pub room_is : room_of context.order ≡ chain.room
  pub members : AreNewMembers chain context opened chain.members

-- on this page of the member's chain the generation after its own stands, which was made of just what its pass knows; used inside the crate
-- alone
pub record IsEnded (m : Seated) (page : Reached Told) : Type 0 where
  pub chain : page.chain ≡ m.chain.book
  pub next : Told
  pub at : slice_get page.told (m.generation + 1) ≡ Some next
  pub all : known next.last ≡ known m.pass

-- a member that did not move: it is as before, but for how many calls its pass has made to evaluate, and for why it did not
abbrev pub Stays : Seated → Seated → Type 0
Stays old new = new ≡ record old { pass = record old.pass { made = new.pass.made }; reason = new.reason }

-- No call of the member's generation is left out of what is on this page: it begins with the generations up to that, and the one after
-- these was made of just what the member's pass knows. Each generation on a page comes after the one before it
pub record Brings (old : Seated) (page : Reached Told) : Type 0 where
  pub begins : IsPrefix old.page.told page.told
  pub next : Told
  pub at : slice_get page.told (old.generation + 1) ≡ Some next
  pub all : known next.last ≡ known old.pass

-- A member that moved: its generation was full and it knew all of that; it has the pass of its number in a later generation, the last on its
-- page, which goes on with what is told of that. So no call that it knew is left out of what it sees
pub record Moves (old new : Seated) : Type 0 where
  pub end : IsAtEnd old.pass
  pub later : old.generation < new.generation
  pub number : new.pass.view.number ≡ old.pass.view.number
  pub placed : IsPlaced new.chain.book new.context new.numbers new.generation new.page
  pub goes_on : GoesOn new.chain.room new.chain.members placed.here.own new.pass
  pub chain : new.chain ≡ old.chain
  pub brings : Brings old new.page
  pub keeps : Keeps old new []

-- a member that sits where it sat, with a pass of the store there
pub record IsThere (old new : Seated) : Type 0 where
  pub chain : new.chain ≡ old.chain
  pub page : new.page ≡ old.page
  pub context : new.context ≡ old.context
  pub numbers : new.numbers ≡ old.numbers
  pub generation : new.generation ≡ old.generation
  pub pass : IsPassOf new.context new.pass

-- how a member came from one state to another with no call of its own entered: it stayed, or it moved, or a call where it sits was answered
-- and not entered; or that and more, one after another
pub data Comes : Seated → Seated → Type 0 where
  stayed : {old new : Seated} → Stays old new → Comes old new
  moved : {old new : Seated} → Moves old new → Comes old new
  unmade : {old new : Seated} → IsThere old new → (c : Call) (r : Answer) → is_entered c r ≡ false → Answered new.context old.pass new.pass c r → Comes old new
  next : {old mid new : Seated} → Comes old mid → Comes mid new → Comes old new

-- A call where the member sits, made there by the numbers of that generation. The answer is all that a call by its pass promises, by the
-- numbers that its users have
pub record CallsHere (before new : Seated) (c : Call) (r : Answer) : Type 0 where
  pub there : IsThere before new
  pub inner : Answer
  pub answered : Answered new.context before.pass new.pass (inside new.numbers c) inner
  pub answer : r ≡ outside_reply new.numbers inner

-- A call that makes an object, for which there is no place where the member sits: it is refused, and nothing changes but the reason
pub record HeldBack (before new : Seated) (c : Call) (r : Answer) : Type 0 where
  pub stays : Stays before new
  pub answer : r ≡ Err OrderFull
  pub makes : class_of c ≡ Makes
  pub none : HasPlace before.chain (room_of before.pass.order) (known before.pass) → ⊥

-- A call where the member sits: it was made there, with place for what it makes, or held back
abbrev pub CallsThere : Seated → Seated → Call → Answer → Type 0
CallsThere before new c r = (CallsHere before new c r × (class_of c ≡ Makes → HasPlace before.chain (room_of before.pass.order) (known before.pass))) ⊎ HeldBack before new c r

-- One call of a member: it came to where it sits with no call of its own entered, and made the call there. So the call is entered there or
-- nowhere
pub record Calls (old new : Seated) (c : Call) (r : Answer) : Type 0 where
  pub before : Seated
  pub came : Comes old before
  pub there : CallsThere before new c r
