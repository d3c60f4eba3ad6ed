-- believed: That no call is lost from one generation to the next, and that the calls of all generations are one history, as users see
-- them (own).
use Rattle.std.specs.Prelude.{◌≡◌, ℕ, List, [], ◌∷◌, ◌++◌, length, map}
use Rattle.grb_order.specs.Laws.{HasSeat, Row}
use Rattle.grb_order.specs.Rule.{Orderly}
use Rattle.grb_order.specs.Order.{room_of}
use Rattle.grb_order.specs.declared.rule.Size.{Size}
use Rattle.grb_call.specs.History.{Entry, History, store_of}
use Rattle.grb_call.specs.Store.{Store}
use Rattle.grb_context.specs.Known.{Shared, Knowing, known, IsKnown}
use Rattle.grb_context.specs.Laws.{ShareCalls}
use Rattle.grb_context.specs.Succeeding.{BeginsWith}
use Rattle.grb_numbers.specs.Inside.{inside}
use Rattle.grb_numbers.specs.Numbers.{NumbersSeen, first_numbers}
use Rattle.grb_numbers.specs.Seen.{AreNumbersOf, seen_store}
use Rattle.grb_generations.specs.Keeping.{kept_numbers, kept_store}

-- Where a pass knows as many calls as there is room for, and a pass of a further store begins with the objects that these leave: whatever
-- any other pass of the full store knows, at any step of its order, also a later one, the further store is seen as what that and some calls
-- after it leave was seen
abbrev pub NothingIsLost : Type 0
NothingIsLost =
    (size : Size) (s : Row) → Orderly size s → (i j : ℕ) (context : Shared) (p q : Knowing) → HasSeat s i p.view → HasSeat s j q.view → IsKnown context p → IsKnown context q
    → ShareCalls p.shown q.shown → length (known p) ≡ room_of context.order
    → (further : Shared) (number : ℕ) (new : Knowing) → BeginsWith further (kept_store (store_of (known p))) number new → (n : NumbersSeen) → AreNumbersOf n (store_of (known p))
    → (rest : History) × (seen_store (kept_numbers n (store_of (known p))) (store_of (known new)) ≡ seen_store n (store_of (known q ++ rest)))

-- one later generation: the numbers by which it is seen, a pass as it was when it began, and the calls that were entered in it after those
-- that made its objects anew, as users made them
pub record Later : Type 0 where
  pub numbers : NumbersSeen
  pub first : Knowing
  pub entered : History

-- the entries by the numbers of a generation
abbrev pub entries_inside : NumbersSeen → History → History
entries_inside n h = map (λ (e : Entry). (e.0, inside n e.1)) h

-- its whole history, with the calls that made its objects anew
abbrev pub history_of : Later → History
history_of later = known later.first ++ entries_inside later.numbers later.entered

-- A generation goes on from a history that was seen by these numbers: it begins with the objects that this leaves, and with the numbers
-- for them; these suffice for all that was made in it
pub record GoesOnFrom (n : NumbersSeen) (g : History) (later : Later) : Type 0 where
  pub context : Shared
  pub number : ℕ
  pub begins : BeginsWith context (kept_store (store_of g)) number later.first
  pub numbers_are : later.numbers ≡ kept_numbers n (store_of g)
  pub numbered : AreNumbersOf later.numbers (store_of (history_of later))

-- these generations go on one after another from a history that was seen by these numbers
abbrev pub AreChained : NumbersSeen → History → List Later → Type 0
AreChained n g [] = Unit {0}
AreChained n g (later ∷ rest) = GoesOnFrom n g later × AreChained later.numbers (history_of later) rest

-- the store of the last of them, as it is seen
abbrev pub last_seen : NumbersSeen → History → List Later → Store
last_seen n g [] = seen_store n (store_of g)
last_seen n g (later ∷ rest) = last_seen later.numbers (history_of later) rest

-- the calls that were entered in all of them, in their order, as users made them
abbrev pub all_entered : List Later → History
all_entered [] = []
all_entered (later ∷ rest) = later.entered ++ all_entered rest

-- however many generations there were, the store of the last is seen as the one that the calls leave which were entered in all of them, one
-- after another, by the numbers that users have: as though there had been one store with room for all
abbrev pub OneHistory : Type 0
OneHistory = (g : History) (later : List Later) → AreNumbersOf first_numbers (store_of g) → AreChained first_numbers g later → last_seen first_numbers g later ≡ store_of (g ++ all_entered later)
