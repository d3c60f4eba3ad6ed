use Rattle.std.proofs.Common.{◌≡◌, length, sym, ap, subst, ◌∙◌, arith}
use Rattle.grb_call.specs.Store.{IsStore}
use Rattle.grb_states.specs.State.{RoomyStore, is_assembled}
use Rattle.grb_rebuild.specs.Rebuilt.{rebuilt}
use Rattle.grb_rebuild.proofs.rebuild.rebuild_all.Goals as goal

pub returns-clause-rebuild : goal.returns-clause-rebuild
returns-clause-rebuild c =
    let old = c.args.state.now in let new = c.in-Ok-try_clone.state in
    let store : new.store ≡ old.store = ap (λ (x : RoomyStore). x.store) c.in-Ok-try_clone.ensures in
    record {
      calls_are = c.in-Ok.ensures.calls ∙ sym (ap rebuilt store);
      whole = subst IsStore (sym store) c.in-Ok.ensures.whole;
      assembled = λ o. ap (λ (x : RoomyStore). is_assembled x.matrices x.vectors o) c.in-Ok-try_clone.ensures ∙ c.requires.assembled o;
      room_is = omega (arith, ap (λ (x : RoomyStore). x.room) c.in-Ok-try_clone.ensures, ap length c.in-Ok.ensures.calls, c.needed-needed.ensures.calls, c.if-needed-from.false, c.from.ensures);
    }
