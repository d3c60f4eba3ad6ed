-- believed: The entries of a list of calls, each with its target at its place, and what is known between them (own).
use Rattle.std.specs.Prelude.{◌≡◌, true, List, [], ◌∷◌, Some}
use Rattle.grb_call.specs.declared.call.Call.{Call}
use Rattle.grb_call.specs.declared.ids.Object.{Object}
use Rattle.grb_call.specs.Shapes.{ObjectShapes}
use Rattle.grb_call.specs.Refused.{shapes_after}
use Rattle.grb_call.specs.Store.{Store, shapes_of}
use Rattle.grb_call.specs.After.{after}
use Rattle.grb_slices.specs.Content.{Contents, content_at, effective_target}
use Rattle.grb_slices.specs.Slice.{Step, Entry, Known, Wants}

-- the entries of the calls by one walk over shapes: each is to be made
abbrev pub steps_of : ObjectShapes → List Call → List Step
steps_of s [] = []
steps_of s (c ∷ cs) = Entry (effective_target s c) c ∷ steps_of (shapes_after s c) cs

-- the entries are those of the calls on this store, each to be made; and between them stands what objects are known to hold there,
-- each at the place up to which it was evaluated
abbrev pub AreSteps : Store → List Call → List Step → Type 0
AreSteps s [] [] = Unit {0}
AreSteps s (c ∷ cs) [] = ⊥
AreSteps s cs (Known o x ∷ xs) = (content_at s o ≡ Some x) × AreSteps s cs xs
AreSteps s [] (Entry t d ∷ xs) = ⊥
AreSteps s (c ∷ cs) (Entry t d ∷ xs) = (t ≡ effective_target (shapes_of s) c) × (d ≡ c) × AreSteps (after s c) cs xs

-- the wanted objects hold the same
abbrev pub AgreeOn : Wants → Contents → Contents → Type 0
AgreeOn w r t = (o : Object) → w o ≡ true → r o ≡ t o
