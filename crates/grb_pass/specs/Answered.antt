-- believed: All that a call promises (own): one record, under one name, which each method of the store cites with its call.
use Rattle.std.specs.Prelude.{◌≡◌, ◌++◌, false, Err, OnOk}
use Rattle.grb_core.specs.declared.refusal.Refusal.TheVariants.{OutOfMemory}
use Rattle.grb_order.specs.Order.{room_of}
use Rattle.grb_call.specs.declared.call.Call.{Call}
use Rattle.grb_call.specs.Kinds.{enters}
use Rattle.grb_call.specs.Status.{statuses_after}
use Rattle.grb_reader.specs.Known.{Shared, Knowing, known, calls_by, IsKnown}
use Rattle.grb_reader.specs.Explains.{Answer, entered_calls, ground_of, ExplainsCall, IsCaughtUp, MayLackMemory}
use Rattle.grb_reader.specs.Counting.{CountsCall, LooksOnce}
use Rattle.grb_reader.specs.Made.{MakesNone}
use Rattle.grb_reader.specs.Settled.{LeavesReady}
use Rattle.grb_call.specs.Statuses.{status_at}

-- One call of a pass, with what the pass knows before and after it. The answer is that of one history, which it now knows to the end
-- of the words that it has learnt unless a record is not there. Of its own calls it knows those of before, and this one if it was
-- entered. Memory is refused only where nothing that comes first refuses the call. The steps on the order are counted, and a
-- call that only reads makes no more than one for each word that it learns, and one. The answer is kept as the status of the target, and no
-- other status changes. No call of the history is made for one that needs none. An answered wait for one object leaves it ready. Of what is
-- settled before and after the call `explains` says all
pub record Promise (context : Shared) (old new : Knowing) (c : Call) (r : Answer) : Type 0 where
  pub explains : ExplainsCall (room_of context.order) old new c r
  pub knows : IsKnown context new
  pub own : calls_by old.view.number (known new) ≡ calls_by old.view.number (known old) ++ entered_calls c r
  pub caught_up : IsCaughtUp (ground_of r) new
  pub memory : r ≡ Err OutOfMemory → MayLackMemory (room_of context.order) old.settled (known new) c
  pub steps : CountsCall (room_of context.order) old new
  pub read_steps : enters c ≡ false → LooksOnce old new
  pub statuses : status_at new.statuses ≡ statuses_after (room_of context.order) c r (status_at old.statuses)
  pub made : MakesNone old.settled (known new) c → new.made.count ≡ 0
  pub ready : OnOk r (LeavesReady new c)

-- That promise, closed: what one call passes on to the next. Two of them are the same only where their calls are, so a proof compares
-- the calls and not the fields. It sees the fields by the lemma `promise` of `proofs/Promised.antt`
pub data Answered (context : Shared) (old new : Knowing) (c : Call) (r : Answer) : Type 0 where
  promised : Promise context old new c r → Answered context old new c r
