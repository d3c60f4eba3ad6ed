-- believed: The slice of a list of entries for some wanted objects: going back from the last entry, each whose target is wanted,
-- and then what it reads is wanted (own; a backward slice, Weiser, "Program slicing", 1981). And what evaluating the slice alone
-- gives.
use Rattle.std.specs.Prelude.{Bool, false, ◌||◌, if◌then◌else◌, List, [], ◌∷◌, Option, Some}
use Rattle.std.specs.List.{list_any}
use Rattle.std.specs.Option.{option_map_or}
use Rattle.grb_call.specs.declared.call.Call.{Call}
use Rattle.grb_call.specs.declared.ids.Object.{Object}
use Rattle.grb_call.specs.Operands.{objects_read}
use Rattle.grb_call.specs.Status.{is_same_object}
use Rattle.grb_slices.specs.Content.{Content, Contents, outcome}

-- an entry of a list, with its target at its place if it has one; or, between two entries, what an object is known to hold there
pub data Step : Type 0 where
  Entry : Option Object → Call → Step
  Known : Object → Content → Step

-- how what an object holds is had: by making a call, or from an earlier evaluation
pub data Origin : Type 0 where
  Make : Call → Origin
  Recall : Content → Origin

-- an element of a slice
abbrev pub Element : Type 0
Element = Object × Origin

-- which objects are wanted at a place
abbrev pub Wants : Type 0
Wants = Object → Bool

abbrev pub is_among : List Object → Object → Bool
is_among os o = list_any (is_same_object o) os

-- the objects that are read: of a call its inputs, its mask, and what its output held
abbrev pub needs : Origin → List Object
needs (Make c) = objects_read c
needs (Recall x) = []

-- the objects wanted before an entry with this target, which is wanted after it: what it reads, and what else was wanted
abbrev pub wants_before : Wants → Object → Origin → Wants
wants_before w o d p = is_among (needs d) p || (if is_same_object o p then false else w p)

-- the objects wanted before the entries, and their slice
pub record Sliced : Type 0 where
  pub wanted : Wants
  pub elements : List Element

-- a deed belongs to the slice where its object is wanted after it
abbrev pub chosen : Object → Origin → Sliced → Sliced
chosen o d rest = if rest.wanted o then (record { wanted = wants_before rest.wanted o d; elements = (o, d) ∷ rest.elements }) else rest

abbrev pub sliced_step : Step → Sliced → Sliced
sliced_step (Entry t c) rest = option_map_or (λ o. chosen o (Make c) rest) t rest
sliced_step (Known o x) rest = chosen o (Recall x) rest

abbrev pub sliced : Wants → List Step → Sliced
sliced w [] = record { wanted = w; elements = [] }
sliced w (x ∷ xs) = sliced_step x (sliced w xs)

abbrev pub result_of : Contents → Origin → Option Content
result_of r (Make c) = outcome r c
result_of r (Recall x) = Some x

-- what the objects hold once this one holds something else
abbrev pub with_content : Contents → Object → Option Content → Contents
with_content r o x p = if is_same_object o p then x else r p

-- what the objects hold after the elements
abbrev pub evaluated : Contents → List Element → Contents
evaluated r [] = r
evaluated r (t ∷ ts) = evaluated (with_content r t.0 (result_of r t.1)) ts

-- the entries with these targets and calls, each to be made
abbrev pub entries : List (Option Object) → List Call → List Step
entries (t ∷ ts) (c ∷ cs) = Entry t c ∷ entries ts cs
entries _ _ = []

-- which entries belong to the slice, of a list of entries alone
abbrev pub choices : Wants → List Step → List Bool
choices w [] = []
choices w (Entry t c ∷ xs) = option_map_or (sliced w xs).wanted t false ∷ choices w xs
choices w (Known o x ∷ xs) = choices w xs
