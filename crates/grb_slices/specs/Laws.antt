-- believed: What a reader relies on that evaluates what an object depends on, and nothing else (own).
use Rattle.std.specs.Prelude.{◌≡◌, ◌≢◌, List, ◌++◌, Some, None}
use Rattle.grb_call.specs.declared.call.Call.{Call}
use Rattle.grb_call.specs.declared.ids.Object.{Object}
use Rattle.grb_call.specs.Operands.{objects_read}
use Rattle.grb_call.specs.Refused.{refused_by_shapes}
use Rattle.grb_call.specs.Store.{Store, shapes_of}
use Rattle.grb_call.specs.After.{after}
use Rattle.grb_call.specs.History.{after_all}
use Rattle.grb_slices.specs.Content.{Contents, content_at, target_of, effective_target, outcome}
use Rattle.grb_call.specs.Status.{is_same_object}
use Rattle.grb_slices.specs.Slice.{Step, Wants, is_among, sliced, evaluated}
use Rattle.grb_slices.specs.Steps.{steps_of, AreSteps, AgreeOn}

-- after a call that shapes do not refuse, its target holds the outcome
abbrev pub TargetHoldsOutcome : Type 0
TargetHoldsOutcome = (s : Store) (c : Call) (o : Object) → refused_by_shapes (shapes_of s) c ≡ None → target_of (shapes_of s) c ≡ Some o →
    content_at (after s c) o ≡ outcome (content_at s) c

-- no call changes what an object holds that is not its target
abbrev pub OthersStay : Type 0
OthersStay = (s : Store) (c : Call) (o : Object) → effective_target (shapes_of s) c ≢ Some o → content_at (after s c) o ≡ content_at s o

-- the outcome is a matter of what the call reads
abbrev pub OutcomeReadsItsObjects : Type 0
OutcomeReadsItsObjects = (r t : Contents) (c : Call) → AgreeOn (is_among (objects_read c)) r t → outcome r c ≡ outcome t c

-- what one object holds after all calls is what evaluating its slice gives
abbrev pub SliceIsEnough : Type 0
SliceIsEnough = (s : Store) (cs : List Call) (o : Object) →
    evaluated (content_at s) (sliced (is_same_object o) (steps_of (shapes_of s) cs)).elements o ≡ content_at (after_all s cs) o

-- so it is of several objects at once, from contents that hold only what is wanted before the entries, and with what was evaluated
-- earlier recalled at its place
abbrev pub SliceIsEnoughFor : Type 0
SliceIsEnoughFor = (s : Store) (cs : List Call) (w : Wants) (xs : List Step) (r : Contents) → AreSteps s cs xs → AgreeOn (sliced w xs).wanted (content_at s) r →
    AgreeOn w (content_at (after_all s cs)) (evaluated r (sliced w xs).elements)

-- what was evaluated stays so when more calls come, and more may be known of these
abbrev pub EntriesStayEvaluated : Type 0
EntriesStayEvaluated = (s : Store) (cs ds : List Call) (xs ys : List Step) → AreSteps s cs xs → AreSteps (after_all s cs) ds ys → AreSteps s (cs ++ ds) (xs ++ ys)
