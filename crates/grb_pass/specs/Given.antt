-- believed: What an answer leaves of a pass, with what the pass has evaluated (own).
use Rattle.std.specs.Prelude.{◌≡◌, ◌<◌, ◌≤◌, length, IfOk, IfSome, OnErr, OnOk, Result}
use Rattle.std.specs.declared.alloc.AllocError.{AllocError}
use Rattle.grb_call.specs.declared.call.Call.{Call}
use Rattle.grb_call.specs.declared.reply.Reply.{Reply}
use Rattle.grb_call.specs.After.{reply_of}
use Rattle.grb_call.specs.History.{store_of}
use Rattle.grb_results.specs.declared.table.Table.{Table}
use Rattle.grb_reader.specs.Known.{Knowing, known}
use Rattle.grb_reader.specs.Settled.{settled_by, waited_for}
use Rattle.grb_pass.specs.Evaluated.{IsEvaluatedFor, LiesReadyAfter}

-- what a pass leaves that replies to such a call, as `IsReplied` has it, with what was evaluated before and after; the object that the call
-- waits for lies ready
pub record IsGiven (old new : Knowing) (before after : Table) (c : Call) (r : Result Reply AllocError) : Type 0 where
  pub reply : IfOk r (λ reply. reply ≡ reply_of (store_of (known old)) c)
  pub unsettled : OnErr r (old.settled < length (known old))
  pub same : new ≡ record old { settled = new.settled }
  pub settled : OnOk r (new.settled ≡ settled_by c (length (known old)) old.settled)
  pub err : OnErr r (new.settled ≡ old.settled)
  pub evaluated : IsEvaluatedFor new after
  pub made : length (known old) ≤ old.settled → after.made ≡ before.made
  pub ready : OnOk r (IfSome (waited_for c) (λ o. LiesReadyAfter after o (length (known old))))
