use Rattle.std.proofs.Common.{ℕ, refl, sym, ap, subst, ◌∙◌}
use Rattle.grb_call.specs.Refused.{shapes_after}
use Rattle.grb_call.specs.Store.{Store}
use Rattle.grb_call.specs.After.{refused}
use Rattle.grb_states.specs.Objects.{places_of, store_of}
use Rattle.grb_states.specs.State.{RoomyStore, IsState}
use Rattle.grb_states.specs.declared.state.State.TheInside.{Inside}
use Rattle.grb_states.proofs.Applied.{after_then, after_else, state_after}
use Rattle.grb_state.proofs.applying.apply.Goals as goal
use Rattle.grb_state.proofs.applying.apply.Goals.{then-is_none+in_ok-change, else-is_none}

pub invariant_of-state-2 : goal.invariant_of-state-2
invariant_of-state-2 c =
    let inside = c.state.inside in let call = c.args.call.now in let new = c.absorb.new.self in
    let s : Store = store_of inside.objects in
    let is = c.refused.ensures ∙ sym (ap (λ (x : RoomyStore). refused x.store call) c.state.view_is) in
    elim c.if-is_none.branch [
      | then-is_none+in_ok-change w ↦
          let objects = c.absorb.ensures.objects ∙ ap (λ (i : Inside). shapes_after i.shapes.objects call) w.state-inside-is in
          let room = c.absorb.ensures.room ∙ ap (λ (i : Inside). i.shapes.room) w.state-inside-is in
          let t = w.in_ok-change.ensures.ok ∙ sym (after_then s call c.refused.result c.is_none.result is c.is_none.ensures w.if-is_none.true) in
          subst (λ (i : Inside). IsState new (store_of i.objects) (places_of i.objects).0 (places_of i.objects).1) (sym w.state-inside-is)
          (state_after inside.shapes new s _ _ _ _ _ call c.state.invariant t objects room (ap (λ (p : ℕ × ℕ). p.0) w.change.ensures.places) (ap (λ (p : ℕ × ℕ). p.1) w.change.ensures.places))
      | else-is_none w ↦
          let objects = c.absorb.ensures.objects ∙ ap (λ (i : Inside). shapes_after i.shapes.objects call) w.state-inside-is in
          let room = c.absorb.ensures.room ∙ ap (λ (i : Inside). i.shapes.room) w.state-inside-is in
          let t = sym (after_else s call c.refused.result c.is_none.result is c.is_none.ensures w.if-is_none.false) in
          subst (λ (i : Inside). IsState new (store_of i.objects) (places_of i.objects).0 (places_of i.objects).1) (sym w.state-inside-is)
          (state_after inside.shapes new s s _ _ _ _ call c.state.invariant t objects room refl refl)
    ]
