use Prim.{search}
use Rattle.std.proofs.Common.{◌≡◌, false, true, List, length, map, rules, sym, ap, ◌∙◌}
use Rattle.grb_call.specs.declared.call.Call.{Call}
use Rattle.grb_call.specs.declared.ids.Object.{Object}
use Rattle.grb_call.specs.Shapes.{ObjectShapes, is_live}
use Rattle.grb_call.specs.Status.{is_same_object}
use Rattle.grb_call.specs.Store.{Store, shapes_of}
use Rattle.grb_call.specs.History.{after_all}
use Rattle.grb_slices.specs.Content.{content_at}
use Rattle.grb_slices.specs.Slice.{Element, Wants, evaluated}
use Rattle.grb_states.specs.State.{RoomyStore}
use Rattle.grb_replay.specs.Wanted.{is_wanted}
use Rattle.grb_replay.proofs.Walked.{or_nothing}
use Rattle.grb_slices.proofs.Wants.{is_same_object-self}
use Rattle.grb_replay.proofs.NextTarget.{walked_all}
use Rattle.grb_replay.proofs.Valued.{goes_over, not_there, length_all, slice_is, length_none}
use Rattle.grb_replay.proofs.value.value_of.Goals as goal

pub returns-then-not-contains-clause-content : goal.returns-then-not-contains-clause-content
returns-then-not-contains-clause-content c =
    let s : Store = c.args.whole.now.store in let cs : List Call = map (λ a. a.now) c.args.calls.now in let o = c.args.object in
    let shaped = (walked_all s c.in_ok-walk.walk c.go_on.new.self cs c.in_ok-walk.ensures.targets (c.in_ok-walk.ensures.shapes ∙ c.shapes.ensures) (c.go_on.ensures.walked s)).1 in
    let out : c.contains.result ≡ false = search rules in
    let gone : is_live (shapes_of (after_all s cs)) o ≡ false = ap (λ (u : ObjectShapes). is_live u o) (sym shaped) ∙ (sym c.contains.ensures ∙ out) in
    not_there (after_all s cs) o gone ∙ sym (ap (λ (r : RoomyStore). content_at r.store o) c.empty.ensures)

pub returns-then-not-contains-clause-slice : goal.returns-then-not-contains-clause-slice
returns-then-not-contains-clause-slice c live =
    let s : Store = c.args.whole.now.store in let cs : List Call = map (λ a. a.now) c.args.calls.now in let o = c.args.object in
    let shaped = (walked_all s c.in_ok-walk.walk c.go_on.new.self cs c.in_ok-walk.ensures.targets (c.in_ok-walk.ensures.shapes ∙ c.shapes.ensures) (c.go_on.ensures.walked s)).1 in
    let out : c.contains.result ≡ false = search rules in
    let gone : is_live (shapes_of (after_all s cs)) o ≡ false = ap (λ (u : ObjectShapes). is_live u o) (sym shaped) ∙ (sym c.contains.ensures ∙ out) in
    let no : true ≡ false = sym live ∙ gone in cc

pub returns-then-not-contains-clause-evaluated : goal.returns-then-not-contains-clause-evaluated
returns-then-not-contains-clause-evaluated c =
    let s : Store = c.args.whole.now.store in let cs : List Call = map (λ a. a.now) c.args.calls.now in
    let shaped = (walked_all s c.in_ok-walk.walk c.go_on.new.self cs c.in_ok-walk.ensures.targets (c.in_ok-walk.ensures.shapes ∙ c.shapes.ensures) (c.go_on.ensures.walked s)).1 in
    let out : c.contains.result ≡ false = search rules in
    length_none s c.args.object cs c.go_on.new.self.shapes.objects shaped (sym c.contains.ensures ∙ out)

pub returns-clause-content : goal.returns-clause-content
returns-clause-content c =
    let s : Store = c.args.whole.now.store in let cs : List Call = map (λ a. a.now) c.args.calls.now in let o = c.args.object in let w : Wants = is_wanted c.want.new.self in
    let walked = (walked_all s c.in_ok-walk.walk c.go_on.new.self cs c.in_ok-walk.ensures.targets (c.in_ok-walk.ensures.shapes ∙ c.shapes.ensures) (c.go_on.ensures.walked s)).0 in
    let equal : c.in_ok-state.state.store ≡ s = ap (λ (r : RoomyStore). r.store) c.in_ok-state.ensures in
    let over = goes_over w cs c.targets-targets.result.now c.as_slice.result.now c.in_ok-slice.slice s c.in_ok-state.state.store c.make_chosen.new.state.store
    c.in_ok-slice.ensures.slice (c.targets-targets.ensures ∙ walked) c.as_slice.ensures.value equal c.in_ok-make_chosen.ensures.over in
    let one : w o ≡ is_same_object o o = c.in_ok-want.ensures.ok o ∙ or_nothing (is_same_object o o) (is_wanted c.new-wanted.result o) (c.new-wanted.ensures o) in
    over.follows.agree o (one ∙ is_same_object-self o) ∙ sym (ap (λ (r : Store). content_at r o) c.in_ok-complete.ensures.store)

pub returns-clause-slice : goal.returns-clause-slice
returns-clause-slice c live p =
    let s : Store = c.args.whole.now.store in let cs : List Call = map (λ a. a.now) c.args.calls.now in let o = c.args.object in let w : Wants = is_wanted c.want.new.self in
    let walked = (walked_all s c.in_ok-walk.walk c.go_on.new.self cs c.in_ok-walk.ensures.targets (c.in_ok-walk.ensures.shapes ∙ c.shapes.ensures) (c.go_on.ensures.walked s)).0 in
    let equal : c.in_ok-state.state.store ≡ s = ap (λ (r : RoomyStore). r.store) c.in_ok-state.ensures in
    let over = goes_over w cs c.targets-targets.result.now c.as_slice.result.now c.in_ok-slice.slice s c.in_ok-state.state.store c.make_chosen.new.state.store
    c.in_ok-slice.ensures.slice (c.targets-targets.ensures ∙ walked) c.as_slice.ensures.value equal c.in_ok-make_chosen.ensures.over in
    let one : (q : Object) → w q ≡ is_same_object o q = λ q. c.in_ok-want.ensures.ok q ∙ or_nothing (is_same_object o q) (is_wanted c.new-wanted.result q) (c.new-wanted.ensures q) in
    ap (λ (r : Store). content_at r p) c.in_ok-complete.ensures.store ∙ (over.slice p
    ∙ ap (λ (ts : List Element). evaluated (content_at s) ts p) (slice_is o s cs c.targets-targets.result.now w one (c.targets-targets.ensures ∙ walked)))

pub returns-clause-gone : goal.returns-clause-gone
returns-clause-gone c gone =
    let s : Store = c.args.whole.now.store in let cs : List Call = map (λ a. a.now) c.args.calls.now in let o = c.args.object in
    let shaped = (walked_all s c.in_ok-walk.walk c.go_on.new.self cs c.in_ok-walk.ensures.targets (c.in_ok-walk.ensures.shapes ∙ c.shapes.ensures) (c.go_on.ensures.walked s)).1 in
    let live : c.contains.result ≡ true = search rules in
    let there : is_live (shapes_of (after_all s cs)) o ≡ true = ap (λ (u : ObjectShapes). is_live u o) (sym shaped) ∙ (sym c.contains.ensures ∙ live) in
    let no : true ≡ false = sym there ∙ gone in cc

pub returns-clause-evaluated : goal.returns-clause-evaluated
returns-clause-evaluated c =
    let s : Store = c.args.whole.now.store in let cs : List Call = map (λ a. a.now) c.args.calls.now in let o = c.args.object in let w : Wants = is_wanted c.want.new.self in
    let walked = walked_all s c.in_ok-walk.walk c.go_on.new.self cs c.in_ok-walk.ensures.targets (c.in_ok-walk.ensures.shapes ∙ c.shapes.ensures) (c.go_on.ensures.walked s) in
    let live : c.contains.result ≡ true = search rules in
    let one : (q : Object) → w q ≡ is_same_object o q = λ q. c.in_ok-want.ensures.ok q ∙ or_nothing (is_same_object o q) (is_wanted c.new-wanted.result q) (c.new-wanted.ensures q) in
    length_all s o cs c.go_on.new.self.shapes.objects c.in_ok-slice.slice.count walked.1 (sym c.contains.ensures ∙ live)
    (c.in_ok-slice.ensures.slice.count ∙ ap length (slice_is o s cs c.targets-targets.result.now w one (c.targets-targets.ensures ∙ walked.0)))
