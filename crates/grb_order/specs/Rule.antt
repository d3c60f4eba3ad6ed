-- believed: What holds of the row and of all views between any two steps.
use Rattle.std.specs.Prelude.{◌≡◌, ℕ, ◌<◌, ◌≤◌, List, ◌++◌, length, All, replicate}
use mathlib.Core.Option.{some}
use lib.ListN.{get_elem?}
use Rattle.atomic_table.specs.Table.{State}
use Rattle.grb_order.specs.Word.{IsWord, positions, StartsWith}
use Rattle.grb_order.specs.declared.rule.Size.{Size}
use Rattle.grb_order.specs.declared.standing.Standing.{Standing}
use Rattle.grb_order.specs.declared.standing.Role.{Role}
use Rattle.grb_order.specs.declared.standing.Role.TheVariants.{Dealer, Seated, Note, Spent}

-- a seat: its words begin the words entered, and so do those of the last note that it took in; the words of its number are at just
-- its own positions, all of them learnt
pub record IsSeated (size : ℕ) (entered : List ℕ) (dealt : ℕ) (seat_of : ℕ → ℕ) (at : ℕ) (v : Standing) : Type 0 where
  pub number : v.view.number < dealt
  pub passes : v.view.passes ≡ size
  pub seat : seat_of v.view.number ≡ at
  pub words : StartsWith entered v.view.words
  pub told : StartsWith entered v.told
  pub own : positions v.view.number entered ≡ v.view.own
  pub learnt : positions v.view.number v.view.words ≡ v.view.own

module _ (passes : ℕ) (entered : List ℕ) (dealt dealer : ℕ) (seat_of : ℕ → ℕ) (at : ℕ) (v : Standing) where
  abbrev pub Fits : Role → Type 0
  Fits Dealer = (at ≡ dealer) × (v.view.number ≡ dealt)
  Fits Seated = IsSeated passes entered dealt seat_of at v
  Fits Note = StartsWith entered v.view.words
  Fits Spent = Unit {0}

-- the first `dealt` seats are in the table, each at an index of its own, and the dealer has those from there on
pub record Orderly (size : Size) (s : State (Unit {0}) Standing) : Type 0 where
  pub entered : List ℕ
  pub vacant : ℕ
  pub dealt : ℕ
  pub dealer : ℕ
  pub seat_of : ℕ → ℕ
  pub row : s.words ≡ entered ++ replicate vacant 0
  pub wide : length s.words ≡ size.room
  pub few : dealt ≤ size.passes
  pub words : All (IsWord dealt) entered
  pub each : (at : ℕ) (v : Standing) → get_elem? s.views at ≡ some v → Fits size.passes entered dealt dealer seat_of at v v.role
  pub seated : (number : ℕ) → number < dealt → (v : Standing) × (get_elem? s.views (seat_of number) ≡ some v) × (v.role ≡ Seated) × (v.view.number ≡ number)
