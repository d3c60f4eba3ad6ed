-- What a member's snapshot hands out, of the value that is shared.
use Rattle.std.proofs.Common.{IfOk, Ok, Err, Result}
use Rattle.std.specs.Result.{result_map_both}
use Rattle.grb_core.specs.declared.refusal.Refusal.{Refusal}
use Rattle.grb_call.specs.declared.call.Call.{Call}
use Rattle.grb_context.specs.Explains.{Answer}
use Rattle.grb_context.specs.Snapshot.{Hands}
use Rattle.grb_generations.specs.Seated.{Seated}
use Rattle.grb_generations.specs.Snapped.{Snaps}
use Rattle.grb_c.specs.Kinds.{HandsOutBy}

hands_ok : {X Y : Type 0} (a : Answer) (x : X) (y : Y) → Hands a (Ok x) → Hands a (Ok y)
hands_ok (Ok reply) x y h = tt
hands_ok (Err why) x y h = h

hands_err : (X Y : Type 0) (a : Answer) (e : Refusal) → Hands {X = X} a (Err e) → Hands {X = Y} a (Err e)
hands_err X Y (Ok reply) e h = h
hands_err X Y (Err why) e h = h

pub hands_out_by : {X Y : Type 0} (f : X → Y) (wait : Call) (Is : Seated → Y → Type 0) (r : Result X Refusal) (old new : Seated) → Snaps old new wait r → IfOk r (λ x. Is new (f x)) → HandsOutBy wait Is (result_map_both f (λ e. e) r) old new
hands_out_by {X} {Y} f wait Is (Ok x) old new s is = record { snapshot = record { answer = s.answer; calls = s.calls; hands = hands_ok s.answer x (f x) s.hands }; is = is }
hands_out_by {X} {Y} f wait Is (Err e) old new s is = record { snapshot = record { answer = s.answer; calls = s.calls; hands = hands_err X Y s.answer e s.hands }; is = tt }
