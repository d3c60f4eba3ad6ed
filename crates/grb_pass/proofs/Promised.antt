-- All that a call promises follows from what its parts do.
use Rattle.std.proofs.Common.{◌≡◌, ℕ, ◌≤◌, false, length, Option, ap, sym, subst, ◌∙◌}
use Rattle.std.specs.Option.{option_or}
use Rattle.grb_pass.proofs.Prelude.{OnOk, room_of, Call, Object, enters, Shared, Knowing, known, IsPassOf, Answer, ExplainsAnswer, IsCaughtUp, ground_of, CountsCall, LooksOnce, status_at, IsSteady, MakesNone, statuses_with, LeavesReady, settled_after, with_rest, explains_alike, caught_up_alike, counts_alike, known_alike, memory_explained, explains_begun, counts_begun, pass_same}
use Rattle.grb_call.specs.Status.{info_of, made_by, object_of, statuses_after, with_status}
use Rattle.grb_pass.specs.Answered.{Promise, Answered, promised}
use Rattle.grb_reader.proofs.Counted.{begun}
use Rattle.grb_reader.proofs.Owning.{own_calls, is_known}
use Rattle.grb_pass.proofs.Settling.{explains_settled}

-- what a call promises, field by field
pub promise : (context : Shared) (old new : Knowing) (c : Call) (r : Answer) → Answered context old new c r → Promise context old new c r
promise context old new c r (promised is) = is

-- the answer was kept as a status
pub record IsKeptAs (mid : Knowing) (x : Option Object) (r : Answer) (new : Knowing) : Type 0 where
  pub same : new ≡ record mid { statuses = new.statuses }
  pub statuses : status_at new.statuses ≡ statuses_with mid x r

pub pass_kept : (context : Shared) (mid new : Knowing) (x : Option Object) (r : Answer) → IsKeptAs mid x r new → IsPassOf context mid → IsPassOf context new
pass_kept context mid new x r kept of = pass_same context mid new (ap (λ (p : Knowing). p.order) kept.same) (ap (λ (p : Knowing). p.shown) kept.same) of

-- the parts of a call leave the statuses, and settle calls where they are to; and then its answer is kept
pub answered : (context : Shared) (old now mid new : Knowing) (x : Option Object) (c : Call) (r : Answer) → now ≡ begun old → old.settled ≤ length (known old) → IsPassOf context mid → ExplainsAnswer (room_of context.order) now mid c r → IsSteady mid → IsCaughtUp (ground_of r) mid → CountsCall (room_of context.order) now mid → (enters c ≡ false → LooksOnce now mid)
    → mid.statuses ≡ now.statuses → mid.settled ≡ settled_after c r (length (known mid)) now.settled → x ≡ object_of c → (MakesNone old.settled (known mid) c → mid.made.count ≡ 0) → OnOk r (LeavesReady mid c) → IsKeptAs mid x r new → Answered context old new c r
answered context old now mid new x c r is before pass explains steady caught_up steps looks same settled about made ready kept =
    let room : ℕ = room_of context.order in
    let last : Knowing = with_rest mid new.statuses mid.settled mid.made in
    let first : ExplainsAnswer room old mid c r = explains_begun room old now mid c r is explains in
    let e : ExplainsAnswer room old last c r = explains_alike room old mid new.statuses mid.settled mid.made c r first in
    let statuses : mid.statuses ≡ old.statuses = same ∙ ap (λ (p : Knowing). p.statuses) is in
    let after : status_at new.statuses ≡ statuses_after room c r (status_at old.statuses) =
    kept.statuses ∙ (λ i. with_status (room_of (pass.order i)) (option_or (about i) (made_by r)) (info_of r) (status_at (statuses i))) in
    let promise : Promise context old last c r = record {
      explains = explains_settled room old last c r e before (settled ∙ ap (λ (p : Knowing). settled_after c r (length (known mid)) p.settled) is);
      knows = known_alike context mid new.statuses mid.settled mid.made (is_known context mid pass steady);
      own = own_calls room old last c r e;
      caught_up = caught_up_alike mid new.statuses mid.settled mid.made (ground_of r) caught_up;
      memory = memory_explained room old last c r e;
      steps = counts_alike room old mid new.statuses mid.settled mid.made (counts_begun room old now mid is steps);
      read_steps = λ reads. subst (λ (p : Knowing). LooksOnce p mid) is (looks reads);
      statuses = after;
      made = made;
      ready = ready;
    } in
    promised (subst (λ (p : Knowing). Promise context old p c r) (sym kept.same) promise)
