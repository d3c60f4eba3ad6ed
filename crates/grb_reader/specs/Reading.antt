-- believed: What ties the parts of a pass (own).
use Rattle.std.specs.Prelude.{◌≡◌, ℕ, ◌+◌, ◌≤◌, true, List, length, drop, All, vec_capacity, Some, None, Result, Ok, Err}
use Rattle.grb_order.specs.declared.limits.TheConstants.{MOST_WORDS}
use Rattle.grb_core.specs.declared.refusal.Refusal.{Refusal}
use Rattle.grb_core.specs.declared.refusal.Refusal.TheVariants.{OutOfMemory}
use Rattle.grb_order.specs.View.{IsOthers, IsSound}
use Rattle.grb_order.specs.Holding.{Holding}
use Rattle.grb_records.specs.Token.{Shown}
use Rattle.grb_core.specs.Entries.{nvals_of}
use Rattle.grb_call.specs.declared.call.Call.{Call}
use Rattle.grb_call.specs.declared.call.Call.TheVariants as call
use Rattle.grb_call.specs.Shapes.{RoomyShapes}
use Rattle.grb_call.specs.Store.{Store, matrix_entries, shapes_of, vector_entries}
use Rattle.grb_call.specs.Kinds.{is_build}
use Rattle.grb_call.specs.Refused.{refused_by_shapes}
use Rattle.grb_call.specs.After.{refused, refused_build}
use Rattle.grb_call.specs.History.{store_of}
use Rattle.grb_reader.specs.Explains.{ByStore, ground_of}
use Rattle.grb_reader.specs.Known.{Knowing, spelled, AreRecords}
use Rattle.grb_reader.specs.declared.reader.Reader.TheInside.{Inside}

abbrev pub knowing : Inside → Knowing
knowing r = record { order = r.seat.table_id; view = r.seat.view; shown = r.tokens.items; steps = r.steps; statuses = r.statuses.rows; settled = r.settled; made = record { count = r.made; ready = r.ready } }

-- a reader with these tokens and shapes; the words whose records were not shown yet are of others
pub record IsReaderWith (number size : ℕ) (seat : Holding) (shown : List Shown) (capacity : ℕ) (shapes : RoomyShapes) : Type 0 where
  pub number_is : number ≡ seat.view.number
  pub sound : IsSound seat.table_id.words seat.view
  pub few : length shown ≤ length seat.view.words
  pub records : AreRecords seat.view.words shown
  pub others : All (IsOthers seat.view) (drop (length shown) seat.view.words)
  pub shapes_are : shapes.objects ≡ shapes_of (store_of (spelled seat.view.words shown))
  pub room : shapes.room + length shown ≡ seat.table_id.words
  pub roomy : seat.table_id.words ≤ capacity
  pub room_is : size ≡ seat.table_id.words
  pub small : seat.table_id.words ≤ MOST_WORDS

abbrev pub IsReader : Inside → Type 0
IsReader r = IsReaderWith r.number r.statuses.room r.seat r.tokens.items (vec_capacity r.tokens) r.shapes

-- what a check of a build by what is stored found: no refusal, or memory was refused to the evaluation, or this refusal
abbrev pub IsBuildChecked : Store → Call → Result (Unit {0}) Refusal → Type 0
IsBuildChecked s c (Ok _) = refused_build s c ≡ None
IsBuildChecked s c (Err OutOfMemory) = Unit {0}
IsBuildChecked s c (Err r) = refused_build s c ≡ Some r

-- the call that asks how many entries the object of a build stores, and that count
abbrev pub count_call : Call → Call
count_call (call.BuildMatrix a tuples dup) = call.NvalsMatrix a
count_call (call.BuildVector v tuples dup) = call.NvalsVector v
count_call c = c

abbrev pub count_of_output : Store → Call → ℕ
count_of_output s (call.BuildMatrix a tuples dup) = nvals_of (matrix_entries s a)
count_of_output s (call.BuildVector v tuples dup) = nvals_of (vector_entries s v)
count_of_output s c = 0

-- what a check after all known calls found: the call is not refused, or memory was refused to a build's evaluation, or this refusal
abbrev pub IsChecked : Store → Call → Result (Unit {0}) Refusal → Type 0
IsChecked s c (Ok _) = refused s c ≡ None
IsChecked s c (Err OutOfMemory) = (refused_by_shapes (shapes_of s) c ≡ None) × (is_build c ≡ true)
IsChecked s c (Err r) = (refused s c ≡ Some r) × (ground_of (Err r) ≡ ByStore)
