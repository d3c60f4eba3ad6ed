-- believed: What the rule of the row says, in a reader's words. It holds between any two steps.
use Rattle.std.specs.Prelude.{◌≡◌, ◌≢◌, ℕ, ◌<◌, ◌≤◌, ◌++◌, length, slice_index, replicate, Contains}
use mathlib.Core.Option.{some}
use lib.ListN.{get_elem?}
use Rattle.atomic_table.specs.Table.{State}
use Rattle.grb_order.specs.Word.{number_of, StartsWith}
use Rattle.grb_order.specs.Rule.{Orderly}
use Rattle.grb_order.specs.declared.rule.Size.{Size}
use Rattle.grb_order.specs.declared.view.View.{View}
use Rattle.grb_order.specs.declared.standing.Standing.{Standing}
use Rattle.grb_order.specs.declared.standing.Role.TheVariants.{Seated}

abbrev pub Row : Type 0
Row = State (Unit {0}) Standing

-- a seat with this view is there in the table
abbrev pub HasSeat : Row → ℕ → View → Type 0
HasSeat s at v = (t : Standing) × (get_elem? s.views at ≡ some t) × (t.role ≡ Seated) × (t.view ≡ v)

-- of any two seats the one with more words has those of the other first
abbrev pub SeatsAgree : Type 0
SeatsAgree = (size : Size) (s : Row) → Orderly size s → (i j : ℕ) (v w : View) → HasSeat s i v → HasSeat s j w → length w.words ≤ length v.words → StartsWith v.words w.words

-- where the position after the words of a seat is vacant, the row has these words and no others
abbrev pub VacantIsTheEnd : Type 0
VacantIsTheEnd = (size : Size) (s : Row) → Orderly size s → (i : ℕ) (v : View) → HasSeat s i v → slice_index s.words (length v.words) ≡ 0 → (vacant : ℕ) × (s.words ≡ v.words ++ replicate vacant 0)

-- the seat whose number a word has entered it there
abbrev pub WordsHaveOwners : Type 0
WordsHaveOwners = (size : Size) (s : Row) → Orderly size s → (at : ℕ) → slice_index s.words at ≢ 0
    → (i : ℕ) × (v : View) × HasSeat s i v × (v.number ≡ number_of (slice_index s.words at)) × (v.number < size.passes) × Contains v.own at
