-- believed: When a history explains the answers of a pass. Herlihy, "Wait-free synchronization", 1991: each answer is that of the
-- sequential object at one point of the one order. The answers for want of room, of memory and of a record are our own.
use Rattle.std.specs.Prelude.{◌≡◌, ℕ, ◌<◌, ◌≤◌, Bool, false, if◌then◌else◌, IsTrue, List, [], ◌∷◌, ◌++◌, length, None, Result, Ok, Err, ◌⊎◌}
use Rattle.grb_core.specs.declared.refusal.Refusal.{Refusal}
use Rattle.grb_core.specs.declared.refusal.Refusal.TheVariants.{OrderFull, OutOfMemory, Panic}
use Rattle.grb_call.specs.declared.call.Call.{Call}
use Rattle.grb_call.specs.declared.reply.Reply.{Reply}
use Rattle.grb_call.specs.Kinds.{enters, is_build, is_entry_read, is_size}
use Rattle.grb_call.specs.Refused.{refused_by_shapes}
use Rattle.grb_call.specs.Store.{shapes_of}
use Rattle.grb_call.specs.After.{refused, answer}
use Rattle.grb_call.specs.History.{History, store_of}
use Rattle.grb_reader.specs.Known.{Knowing, known, IsOfOthers, IsOfPasses}
use Rattle.grb_reader.specs.Point.{IsAtPoint, Grows}
use Rattle.grb_reader.specs.Settled.{settled_after}

abbrev pub Answer : Type 0
Answer = Result Reply Refusal

-- what an answer rests on: the store, an order with no room, memory that was refused, or a record that is not there
pub data Ground : Type 0 where
  ByStore : Ground
  ByRoom : Ground
  ByMemory : Ground
  ByRecords : Ground

abbrev pub ground_of : Answer → Ground
ground_of (Ok reply) = ByStore
ground_of (Err OrderFull) = ByRoom
ground_of (Err OutOfMemory) = ByMemory
ground_of (Err Panic) = ByRecords
ground_of (Err refusal) = ByStore

-- the call was entered into the history
abbrev pub is_entered : Call → Answer → Bool
is_entered c (Ok reply) = enters c
is_entered c (Err refusal) = false

-- the calls that were entered: this one, or none
abbrev pub entered_calls : Call → Answer → List Call
entered_calls c r = if is_entered c r then c ∷ [] else []

-- the history after the call of this pass, where it was g at the call
abbrev pub history_after : ℕ → Call → Answer → History → History
history_after number c r g = if is_entered c r then g ++ (number, c) ∷ [] else g

-- the answer is that of one thread in blocking mode after g, at a point of this call
pub record IsAnswered (room : ℕ) (old new : Knowing) (c : Call) (r : Answer) (g : History) : Type 0 where
  pub answered : r ≡ answer (store_of g) c
  pub point : IsAtPoint room old.view new.view g

-- the order has all the calls that there is room for, and this one would be entered as a further one
pub record IsFull (room : ℕ) (c : Call) (g : History) : Type 0 where
  pub unrefused : refused (store_of g) c ≡ None
  pub enters : IsTrue (enters c)
  pub full : length g ≡ room

-- memory may be refused in place of an answer: not in place of a refusal by shapes, nor to a call for dimensions, nor in place of a full
-- order unless the call is a build, nor to a read or a wait where no entry came after those that are settled
pub record MayLackMemory (room settled : ℕ) (g : History) (c : Call) : Type 0 where
  pub by_shapes : refused_by_shapes (shapes_of (store_of g)) c ≡ None
  pub no_size : is_size c ≡ false
  pub room_left : IsTrue (enters c) → is_build c ≡ false → length g < room
  pub unsettled : IsTrue (is_entry_read c) → settled < length g

-- memory was refused where it may be
pub record IsOutOfMemory (room : ℕ) (old new : Knowing) (c : Call) (g : History) : Type 0 where
  pub point : IsAtPoint room old.view new.view g
  pub may : MayLackMemory room old.settled g c

-- a record may be refused in place of an answer: only to a call that would be entered
pub record MayLackRecord (room : ℕ) (g : History) (c : Call) : Type 0 where
  pub unrefused : refused (store_of g) c ≡ None
  pub enters : IsTrue (enters c)
  pub room_left : length g < room

-- the call's own record was not taken, where it may be refused
pub record IsUntaken (room : ℕ) (old new : Knowing) (c : Call) (g : History) : Type 0 where
  pub point : IsAtPoint room old.view new.view g
  pub may : MayLackRecord room g c

-- the record of a word that the pass has learnt was not shown
abbrev pub IsUnshown : Knowing → Type 0
IsUnshown new = length (known new) < length new.view.words

-- why the answer is what it is, where g is the history at the call
abbrev pub IsGrounded : ℕ → Knowing → Knowing → Call → Answer → History → Ground → Type 0
IsGrounded room old new c r g ByStore = IsAnswered room old new c r g
IsGrounded room old new c r g ByRoom = IsFull room c g
IsGrounded room old new c r g ByMemory = IsOutOfMemory room old new c g
IsGrounded room old new c r g ByRecords = IsUnshown new ⊎ IsUntaken room old new c g

-- The answer of one call: the pass first learnt entries of others; then the answer is grounded, and the call stands after what was
-- known if it was entered, once, and nowhere if not
pub record ExplainsAnswer (room : ℕ) (old new : Knowing) (c : Call) (r : Answer) : Type 0 where
  pub grown : Grows old.view new.view
  pub learnt : History
  pub others : IsOfOthers old.view.number learnt
  pub passes : IsOfPasses old.view.passes learnt
  pub grounds : IsGrounded room old new c r (known old ++ learnt) (ground_of r)
  pub known_is : known new ≡ history_after old.view.number c r (known old ++ learnt)

-- One call, and how many calls are settled before and after it. Those of before are known before the call, so it is answered at a point
-- that is not before them, and they stay settled. A Materialize that is done settles all that is then known, and no other call settles any
pub record ExplainsCall (room : ℕ) (old new : Knowing) (c : Call) (r : Answer) : Type 0 where
  pub answer : ExplainsAnswer room old new c r
  pub known_before : old.settled ≤ length (known old)
  pub settled : new.settled ≡ settled_after c r (length (known new)) old.settled
  pub stay : old.settled ≤ new.settled
  pub known_after : new.settled ≤ length (known new)

-- the calls of a pass, one after another, with what it knows and how many calls are settled before and after each: each is explained from
-- what the one before it left
abbrev pub Explains : ℕ → Knowing → List Call → List Answer → Knowing → Type 0
Explains room old [] [] new = new ≡ old
Explains room old (c ∷ cs) (r ∷ rs) new = (next : Knowing) × ExplainsCall room old next c r × Explains room next cs rs new
Explains room old _ _ new = ⊥

-- unless a record is not there, the pass knows the call of each word that it has learnt
abbrev pub IsCaughtUp : Ground → Knowing → Type 0
IsCaughtUp ByRecords p = Unit {0}
IsCaughtUp _ p = length (known p) ≡ length p.view.words
