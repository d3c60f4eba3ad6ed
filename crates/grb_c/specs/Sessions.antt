-- believed: What a contract sees of a handle, and what one export does with it (own).
use Rattle.std.specs.Prelude.{◌≡◌, ◌<◌, ◌≤◌, length, ℕ, ℤ, ◌==◌, Bool, true, false, Option, Some, None, is_some, Result, Ok, Err}
use Rattle.grb_core.specs.declared.refusal.Refusal.{Refusal}
use Rattle.grb_core.specs.declared.refusal.Refusal.TheVariants.{UninitializedObject}
use Rattle.grb_call.specs.declared.call.Call.{Call}
use Rattle.grb_call.specs.declared.ids.Object.{Object}
use Rattle.grb_order.specs.Order.{room_of}
use Rattle.grb_context.specs.Known.{Knowing, known, none_made}
use Rattle.grb_context.specs.Looking.{IsNow, Looks}
use Rattle.grb_context.specs.Explains.{Answer}
use Rattle.grb_context.specs.Answered.{Answered}
use Rattle.grb_context.specs.Meeting.{Met}
use Rattle.grb_generations.specs.Meeting.{Meets as MembersMeet, MeetsNow}
use Rattle.grb_generations.specs.Seated.{Calls, Seated, Stays}
use Rattle.grb_generations.specs.declared.work.Meeting.{Meeting}
use Rattle.grb_generations.specs.declared.work.Meeting.TheVariants as meeting
use Rattle.grb_c.specs.Bounded.{InStore}
use Rattle.grb_c.specs.Kinds.{IsEither, info_at, pass_at}
use Rattle.grb_c.specs.declared.session.Kind.{Kind}
use Rattle.grb_c.specs.declared.session.Kind.TheVariants as kind
use Rattle.grb_codes.specs.Codes.{TellsInfo, done_code, invalid_value, met_code, no_value, refusal_code, success, uninitialized_object}

-- who makes the calls, and the number of the store or of the chain
pub record Opened : Type 0 where
  pub kind : Kind
  pub store : ℕ

-- the pass by which a handle makes its next call: of a member, that in its generation
abbrev pub pass_of : Opened → Knowing
pass_of s = pass_at s.kind

-- a handle stays that of its store or chain; where it has a pass of a bounded store the one holds, and where a member the other
abbrev pub Goes : (InStore → InStore → Type 0) → (Seated → Seated → Type 0) → Opened → Opened → Type 0
Goes P M old new = (new.store ≡ old.store) × IsEither P M old.kind new.kind

-- A call by a handle is one by its pass in its context, and is all that the store promises of it; or one by its member, and all that a
-- chain promises of it. Where there is none it is refused, and there is none after
abbrev pub MadeBy : Opened → Opened → Call → Answer → Type 0
MadeBy old new c r = Goes (λ o n. (n.context ≡ o.context) × Answered o.context o.pass n.pass c r) (λ o n. Calls o n c r) old new

abbrev pub Made : Option Opened → Option Opened → Call → Answer → Type 0
Made None None c r = r ≡ Err UninitializedObject
Made None (Some new) c r = ⊥
Made (Some old) None c r = ⊥
Made (Some old) (Some new) c r = MadeBy old new c r

-- the call was made with some answer, of which the status is the code, and what is put out is what it says
pub record Puts {X : Type 0} (status : Answer → ℤ) (out : Answer → X → X) (old new : Option Opened) (c : Call) (code : ℤ) (before after : X) : Type 0 where
  pub answer : Answer
  pub made : Made old new c answer
  pub code_is : code ≡ status answer
  pub out_is : after ≡ out answer before

-- a call that puts nothing out: made with some answer, of which the status is the code
pub record Does (old new : Option Opened) (c : Call) (code : ℤ) : Type 0 where
  pub answer : Answer
  pub made : Made old new c answer
  pub code_is : code ≡ done_code answer

-- two passes of one number are of one context, and two members of one are of one chain
abbrev pub AreOfOne : Kind → Kind → Type 0
AreOfOne (kind.Bounded p) (kind.Bounded q) = p.context ≡ q.context
AreOfOne (kind.Member p) (kind.Member q) = p.chain ≡ q.chain
AreOfOne (kind.Bounded p) (kind.Member q) = Unit {0}
AreOfOne (kind.Member p) (kind.Bounded q) = Unit {0}

-- two handles with one number are of one store, or of one chain: two that are open have two numbers
abbrev pub AreApart : Option Opened → Option Opened → Type 0
AreApart (Some p) (Some q) = p.store ≡ q.store → AreOfOne p.kind q.kind
AreApart None o = Unit {0}
AreApart (Some p) None = Unit {0}

-- a meeting of two passes in one context, with its status
pub record MetBy (old new other : InStore) (code : ℤ) : Type 0 where
  pub answer : Result (Unit {0}) Refusal
  pub context : new.context ≡ old.context
  pub met : Met old.context old.pass new.pass other.pass answer
  pub code_is : code ≡ met_code answer

-- the status of a meeting of two members: where the other sits in a generation to which the one could not move now, it has not met it
abbrev pub meeting_code : Result Meeting Refusal → ℤ
meeting_code (Ok meeting.Here) = success
meeting_code (Ok meeting.Ahead) = success
meeting_code (Ok meeting.Behind) = no_value
meeting_code (Err r) = refusal_code r

-- a meeting of two members of one chain, with all that a chain promises of it: where both sit in one generation they meet there, and where
-- the one sits in a later generation nothing of it changes
pub record MeetsMember (old new other : Seated) (r : Result Meeting Refusal) : Type 0 where
  pub meets : MembersMeet old new other r
  pub together : old.generation ≡ other.generation → MeetsNow old new other r
  pub ahead : other.generation < old.generation → (r ≡ Ok meeting.Ahead) × (new ≡ old)

-- the same with its status
pub record MembersMet (old new other : Seated) (code : ℤ) : Type 0 where
  pub answer : Result Meeting Refusal
  pub meets : MeetsMember old new other answer
  pub code_is : code ≡ meeting_code answer

-- a meeting of two of one sort; a pass of a bounded store and a member of a chain do not meet, and nothing changes
abbrev pub KindsMeet : Kind → Kind → Kind → ℤ → Type 0
KindsMeet (kind.Bounded old) (kind.Bounded new) (kind.Bounded other) code = MetBy old new other code
KindsMeet (kind.Member old) (kind.Member new) (kind.Member other) code = MembersMet old new other code
KindsMeet (kind.Bounded old) new (kind.Member other) code = (code ≡ invalid_value) × (new ≡ kind.Bounded old)
KindsMeet (kind.Member old) new (kind.Bounded other) code = (code ≡ invalid_value) × (new ≡ kind.Member old)
KindsMeet (kind.Bounded old) (kind.Member new) (kind.Bounded other) code = ⊥
KindsMeet (kind.Member old) (kind.Bounded new) (kind.Member other) code = ⊥

-- of one store, or of two
abbrev pub MeetsWhere : Bool → Opened → Opened → Opened → ℤ → Type 0
MeetsWhere true old new other code = (new.store ≡ old.store) × KindsMeet old.kind new.kind other.kind code
MeetsWhere false old new other code = (code ≡ invalid_value) × (new ≡ old)

-- what a meeting by two handles is: refused where one has no pass, or where the two are of two stores, and then nothing changes; and
-- else a meeting of the two passes in their one context, or of the two members of their one chain
abbrev pub Meets : Option Opened → Option Opened → Option Opened → ℤ → Type 0
Meets None new o code = (code ≡ uninitialized_object) × (new ≡ None)
Meets (Some old) new None code = (code ≡ uninitialized_object) × (new ≡ Some old)
Meets (Some old) None (Some other) code = ⊥
Meets (Some old) (Some new) (Some other) code = MeetsWhere (old.store == other.store) old new other code

-- the same pass, but for how many calls it made to answer
abbrev pub IsSamePass : InStore → InStore → Type 0
IsSamePass old new = new ≡ record old { pass = record old.pass { made = new.pass.made } }

-- a pass of a bounded store looks: it learnt the newest words, as a call does that only reads, and entered nothing
pub record LooksIn (old new : InStore) : Type 0 where
  pub context : new.context ≡ old.context
  pub looks : Looks (room_of old.context.order) old.pass new.pass

-- all that it knows then is what the history held at one step in between
abbrev pub IsNowIn : InStore → InStore → Type 0
IsNowIn old new = IsNow (room_of old.context.order) old.pass new.pass

-- the same of who makes the calls of a handle: of a member, its call says what it knows
abbrev pub KnowsNow : Opened → Opened → Type 0
KnowsNow old new = IsEither IsNowIn (λ o n. Unit {0}) old.kind new.kind

-- a pass evaluates what it knows, and tells a number that is none above that of the calls that it knows; or there is none
abbrev pub Prepares : Option Opened → Option Opened → ℤ → ℕ → ℕ → Type 0
Prepares None None code before after = (code ≡ uninitialized_object) × (after ≡ before)
Prepares (Some old) (Some new) code before after = (code ≡ success) × Goes IsSamePass Stays old new × (after ≤ length (known (pass_of new)))
Prepares None (Some new) code before after = ⊥
Prepares (Some old) None code before after = ⊥

-- a pass drops what it has evaluated: it knows what it knew, no call is settled, and none was made
abbrev pub released : Knowing → Knowing
released p = record p { settled = 0; made = none_made }

-- so by a handle, of a pass or of a member; or there is none
abbrev pub Releases : Option Opened → Option Opened → ℤ → Type 0
Releases None None code = code ≡ uninitialized_object
Releases (Some old) (Some new) code = (code ≡ success) × Goes (λ o n. n ≡ record o { pass = released o.pass }) (λ o n. n ≡ record o { pass = released o.pass }) old new
Releases None (Some new) code = ⊥
Releases (Some old) None code = ⊥

-- whether there is a pass to tell of
abbrev pub facts_code : Option Opened → ℤ
facts_code (Some s) = success
facts_code None = uninitialized_object

-- whether there is no room any more: the history of a pass is full and it knows all of that; a member was refused to go on
abbrev pub is_full_at : Kind → Bool
is_full_at (kind.Bounded p) = length (known p.pass) == room_of p.pass.order
is_full_at (kind.Member m) = is_some m.reason

-- what is told of the status of an object, where there is a pass to tell of
abbrev pub TellsInfoOf : Option Opened → Object → ℤ → ℤ → ℤ → Type 0
TellsInfoOf (Some s) o code before after = TellsInfo (info_at s.kind o) code before after
TellsInfoOf None o code before after = (code ≡ uninitialized_object) × (after ≡ before)
