-- believed: What the steps inside a call leave (own).
use Rattle.std.specs.Prelude.{◌≡◌, ℕ, ◌<◌, ◌≤◌, [], ◌∷◌, ◌++◌, length, slice_index, drop, All, Option, Some, None, Result, Ok, Err}
use Rattle.grb_order.specs.declared.limits.TheConstants.{MOST_WORDS}
use Rattle.grb_core.specs.declared.refusal.Refusal.{Refusal}
use Rattle.grb_core.specs.declared.refusal.Refusal.TheVariants.{Panic}
use Rattle.grb_order.specs.Word.{order_word}
use Rattle.grb_order.specs.View.{learns, enters_word, IsOthers, IsSound, LookedLast}
use Rattle.grb_order.specs.Order.{room_of}
use Rattle.grb_records.specs.Token.{Shown}
use Rattle.grb_call.specs.declared.call.Call.{Call}
use Rattle.grb_call.specs.After.{refused}
use Rattle.grb_call.specs.History.{History, store_of}
use Rattle.grb_reader.specs.declared.learn.End.{End}
use Rattle.grb_reader.specs.declared.learn.End.TheVariants.{Vacant, Full}
use Rattle.grb_reader.specs.Known.{Knowing, known, AreRecords, IsOfOthers, IsOfPasses}
use Rattle.grb_reader.specs.Point.{Grows}
use Rattle.grb_reader.specs.Explains.{IsGrounded, IsCaughtUp, ground_of}
use Rattle.grb_reader.specs.Counting.{LooksLast}

-- what each pass keeps: the records shown are those of the first words, the words are what its seat has seen, and those whose
-- record was not shown yet are of others
pub record IsSteady (p : Knowing) : Type 0 where
  pub records : AreRecords p.view.words p.shown
  pub few : length p.shown ≤ length p.view.words
  pub sound : IsSound (room_of p.order) p.view
  pub others : All (IsOthers p.view) (drop (length p.shown) p.view.words)
  pub small : room_of p.order ≤ MOST_WORDS

-- the word learnt first of those whose record was not shown; another pass entered it
pub record IsNextUnshown (p : Knowing) (word : ℕ) : Type 0 where
  pub within : length p.shown < length p.view.words
  pub word_is : word ≡ slice_index p.view.words (length p.shown)
  pub others : IsOthers p.view word

-- the pass learnt entries of others, and entered none; no status changed, and it settled no call
pub record Learns (old new : Knowing) : Type 0 where
  pub grown : Grows old.view new.view
  pub own : new.view.own ≡ old.view.own
  pub learnt : History
  pub known_is : known new ≡ known old ++ learnt
  pub others : IsOfOthers old.view.number learnt
  pub passes : IsOfPasses old.view.passes learnt
  pub statuses : new.statuses ≡ old.statuses
  pub settled : new.settled ≡ old.settled

-- all words are known, and the last look found the next one vacant, or there is none; or a record was not shown
abbrev pub Finds : ℕ → Knowing → Result End Refusal → Knowing → Type 0
Finds room old (Ok Vacant) new = (length new.shown ≡ length new.view.words) × (new.view.looks ≡ old.view.looks ++ length new.view.words ∷ []) × (length new.view.words < room)
Finds room old (Ok Full) new = (length new.shown ≡ length new.view.words) × (length new.view.words ≡ room)
Finds room old (Err r) new = (r ≡ Panic) × (length (known new) < length new.view.words)

-- a pass that learns to the end looks there once; not where a record was not shown, or the order is full
abbrev pub LooksAtEnd : ℕ → Knowing → Knowing → Type 0
LooksAtEnd room old new = LooksLast room old.view.looks (length new.view.words) new

-- all words are known, the last look found the next one vacant, and the call is not refused
pub record IsReady (room : ℕ) (p : Knowing) (c : Call) : Type 0 where
  pub all : length p.shown ≡ length p.view.words
  pub looked : LookedLast p.view
  pub room_left : length p.view.words < room
  pub unrefused : refused (store_of (known p)) c ≡ None

-- the call is refused at the end of what the pass knows
pub record IsRefused (room : ℕ) (old new : Knowing) (c : Call) (r : Refusal) : Type 0 where
  pub grounds : IsGrounded room old new c (Err r) (known new) (ground_of (Err r))
  pub caught_up : IsCaughtUp (ground_of (Err r)) new

-- A try to enter the record of a token. It comes back where another pass was first
abbrev pub Enters : ℕ → Shown → Knowing → Option Shown → Knowing → Type 0
Enters room token old None new = (new.view ≡ enters_word old.view (order_word old.view.number token.index)) × (new.shown ≡ old.shown ++ token ∷ []) × (length old.view.words < room)
Enters room token old (Some back) new = (back ≡ token) × (new.shown ≡ old.shown) × (word : ℕ) × (new.view ≡ learns old.view word) × IsOthers old.view word
