-- believed: What ties what a pass has evaluated to the calls that it knows (own): a table of results of the first of them.
use Rattle.std.specs.Prelude.{◌≡◌, ℕ, ◌≤◌, length, IfSome}
use Rattle.grb_call.specs.declared.ids.Object.{Object}
use Rattle.grb_call.specs.History.{calls_of}
use Rattle.grb_states.specs.Settled.{AreAllAssembled}
use Rattle.grb_states.specs.State.{RoomyStore, is_assembled}
use Rattle.grb_results.specs.Kept.{AreReady, IsReady}
use Rattle.grb_results.specs.Results.{IsTable}
use Rattle.grb_results.specs.declared.table.Table.{Table}
use Rattle.grb_reader.specs.Cells.{OwnBelow}
use Rattle.grb_reader.specs.Known.{Knowing, known}

-- no change waits in any object
abbrev pub IsAssembled : RoomyStore → Type 0
IsAssembled state = AreAllAssembled (is_assembled state.matrices state.vectors)

-- all calls that are known were learnt, and each object lies ready that is there after them
pub record IsSettledTable (p : Knowing) (t : Table) : Type 0 where
  pub all : length t.learnt.nodes.items ≡ length (known p)
  pub ready : AreReady t

-- the table has results of the first of the calls that are known; where all are settled, each object lies ready; and no more calls are
-- settled than known
pub record IsEvaluatedFor (p : Knowing) (t : Table) : Type 0 where
  pub table : IsTable (calls_of (known p)) t
  pub settled : length (known p) ≤ p.settled → IsSettledTable p t
  pub within : p.settled ≤ length (known p)

-- so many calls were learnt, and the object lies ready after them
pub record LiesReadyAfter (t : Table) (o : Object) (n : ℕ) : Type 0 where
  pub all : length t.learnt.nodes.items ≡ n
  pub ready : IsReady t o

abbrev pub LiesReady : Table → Object × ℕ → Type 0
LiesReady t left = LiesReadyAfter t left.0 left.1

-- what holds between the parts of a pass: it has evaluated calls that it knows, and tells how many were made; and the object that was left
-- ready lies so
pub record IsInStep (p : Knowing) (t : Table) : Type 0 where
  pub evaluated : IsEvaluatedFor p t
  pub made : p.made.count ≡ t.made
  pub ready : IfSome p.made.ready (LiesReady t)

-- what a pass keeps: its parts are in step, and its next record goes after those that its own words name
pub record IsPassState (p : Knowing) (t : Table) (next : ℕ) : Type 0 where
  pub step : IsInStep p t
  pub own : OwnBelow next p.view
