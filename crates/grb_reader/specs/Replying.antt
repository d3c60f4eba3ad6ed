-- believed: What an answer leaves of a pass (own).
use Rattle.std.specs.Prelude.{◌≡◌, ◌<◌, ◌≤◌, false, length, IfOk, OnErr, OnOk, Option, None, Result}
use Rattle.std.specs.Option.{option_or}
use Rattle.std.specs.declared.alloc.AllocError.{AllocError}
use Rattle.grb_core.specs.declared.refusal.Refusal.{Refusal}
use Rattle.grb_order.specs.Order.{room_of}
use Rattle.grb_call.specs.declared.call.Call.{Call}
use Rattle.grb_call.specs.declared.ids.Object.{Object}
use Rattle.grb_call.specs.declared.reply.Reply.{Reply}
use Rattle.grb_call.specs.After.{refused, reply_of}
use Rattle.grb_call.specs.History.{store_of}
use Rattle.grb_call.specs.Kinds.{enters, is_size}
use Rattle.grb_call.specs.Status.{Statuses, info_of, made_by, with_status}
use Rattle.grb_call.specs.Statuses.{status_at}
use Rattle.grb_call.specs.Store.{Store}
use Rattle.grb_reader.specs.Known.{Knowing, known}
use Rattle.grb_reader.specs.Settled.{LeavesReady, settled_by}

-- the statuses after this answer to a call about that object
abbrev pub statuses_with : Knowing → Option Object → Result Reply Refusal → Statuses
statuses_with p object r = with_status (room_of p.order) (option_or object (made_by r)) (info_of r) (status_at p.statuses)

-- the call reads entries of this store, or has changes done in it, and is not refused
pub record ReadsStore (s : Store) (c : Call) : Type 0 where
  pub reads : enters c ≡ false
  pub no_size : is_size c ≡ false
  pub accepted : refused s c ≡ None

-- what a pass leaves that replies to such a call by what it evaluates: where all that it knows is settled it makes no call, and is refused
-- no memory; where memory is refused, no more calls are settled than before. The object that the call waits for is left ready
pub record IsReplied (old new : Knowing) (c : Call) (r : Result Reply AllocError) : Type 0 where
  pub reply : IfOk r (λ reply. reply ≡ reply_of (store_of (known old)) c)
  pub unsettled : OnErr r (old.settled < length (known old))
  pub same : new ≡ record old { settled = new.settled; made = new.made }
  pub settled : OnOk r (new.settled ≡ settled_by c (length (known old)) old.settled)
  pub err : OnErr r (new.settled ≡ old.settled)
  pub made : length (known old) ≤ old.settled → new.made.count ≡ old.made.count
  pub ready : OnOk r (LeavesReady new c)
