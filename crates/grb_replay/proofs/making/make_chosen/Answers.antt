use Rattle.std.proofs.Common.{◌≡◌, ◌+◌, ◌<◌, ℕ, suc, Bool, false, List, length, map, drop, take, get_or, sym, subst, ◌∙◌, arith, Option, None}
use Rattle.grb_call.specs.declared.call.Call.{Call}
use Rattle.grb_call.specs.declared.ids.Object.{Object}
use Rattle.grb_call.specs.Store.{Store}
use Rattle.grb_call.specs.History.{after_all}
use Rattle.grb_slices.specs.Content.{Contents, content_at}
use Rattle.grb_replay.specs.Followed.{GoesOn}
use Rattle.grb_slices.specs.Slice.{entries, evaluated, sliced}
use Rattle.grb_replay.proofs.Prelude.{length-map}
use Rattle.grb_replay.proofs.Lists.{lent_call}
use Rattle.grb_replay.proofs.Going.{HasCome, comes_at, goes_at, goes_target, has_gone_over, inside_default}
use Rattle.grb_replay.proofs.making.make_chosen.Goals as goal

pub places-preserved : goal.places-preserved
places-preserved c =
    let at : ℕ = c.places.at in
    let cs : List Call = map (λ a. a.now) c.args.calls.now in let ts : List (Option Object) = c.args.targets.now in let bs : List Bool = c.args.chosen.now in
    let count : length cs ≡ length c.args.calls.now = length-map c.args.calls.now (λ a. a.now) in
    let same : length ts ≡ length cs = c.requires.targets ∙ sym count in let chose : length bs ≡ length cs = c.requires.chosen ∙ sym count in
    let within : at < length cs = omega (arith, c.places-test.true, count) in
    let call : Call = c.index-calls-at.result.now in let t : Option Object = get_or ts at None in let b : Bool = get_or bs at false in
    let ec : get_or cs at call ≡ call = lent_call (λ a. a.now) c.args.calls.now at c.index-calls-at.result c.index-calls-at.is in
    let et : get_or ts at t ≡ t = inside_default ts at t None (omega (arith, within, same)) in
    let eb : get_or bs at b ≡ b = inside_default bs at b false (omega (arith, within, chose)) in
    let next : suc at ≡ at + 1 = omega arith in
    record {
      room = omega (arith, c.places.invariant.room, c.in_ok-make_one.ensures.room);
      come = λ w whole goes.
          let end : Contents = evaluated (content_at c.args.state.now.store) (sliced w (entries ts cs)).elements in
          let now : GoesOn w (after_all whole (take at cs)) (drop at cs) (drop at ts) (drop at bs) c.places.state.store = c.places.invariant.goes w whole goes in
          let target = goes_target w whole c.places.state.store cs ts bs at call t within same ec et now in
          let made = c.in_ok-make_one.ensures.store (after_all whole (take at cs)) target now.follows.matrices now.follows.vectors in
          subst (λ (n : ℕ). HasCome w end (drop n ts) (drop n cs) c.make_one.new.state.store) next
          (subst (λ (s : Store). HasCome w end (drop (suc at) ts) (drop (suc at) cs) s) (sym made)
          (comes_at w end whole c.places.state.store cs ts bs at call t b within same chose ec et eb now (c.places.invariant.come w whole goes)));
      goes = λ w whole goes.
          let now : GoesOn w (after_all whole (take at cs)) (drop at cs) (drop at ts) (drop at bs) c.places.state.store = c.places.invariant.goes w whole goes in
          let target = goes_target w whole c.places.state.store cs ts bs at call t within same ec et now in
          let made = c.in_ok-make_one.ensures.store (after_all whole (take at cs)) target now.follows.matrices now.follows.vectors in
          subst (λ (n : ℕ). GoesOn w (after_all whole (take n cs)) (drop n cs) (drop n ts) (drop n bs) c.make_one.new.state.store) next
          (subst (λ (s : Store). GoesOn w (after_all whole (take (suc at) cs)) (drop (suc at) cs) (drop (suc at) ts) (drop (suc at) bs) s) (sym made)
          (goes_at w whole c.places.state.store cs ts bs at call t b within same chose ec et eb now));
    }

pub returns-clause-over : goal.returns-clause-over
returns-clause-over c w whole goes =
    let cs : List Call = map (λ a. a.now) c.args.calls.now in
    let count : length cs ≡ length c.args.calls.now = length-map c.args.calls.now (λ a. a.now) in
    has_gone_over w whole c.args.state.now.store c.places.state.store cs c.args.targets.now c.args.chosen.now c.places.at (omega (arith, count, c.places-test.false, c.places.auto.at-end)) (c.requires.targets ∙ sym count) (c.places.invariant.goes w whole goes) (c.places.invariant.come w whole goes)
