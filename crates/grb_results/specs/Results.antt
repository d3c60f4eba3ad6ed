-- believed: Results of calls: what an object holds right after a call that changed it, and a table of such (own).
pub use Rattle.grb_links.specs.Learnt.{AreOneHistory, AreSince, Follows, IsLearnt, IsLink, IsNode, IsShapeAt, IsSince, contents_after, target_in}
use Rattle.std.specs.Prelude.{◌≡◌, ℕ, suc, ◌<◌, ◌≤◌, true, List, [], ◌∷◌, ◌++◌, length, slice_get, Option, Some, None, is_some}
use Rattle.std.specs.Option.{option_map}
use Rattle.grb_call.specs.declared.call.Call.{Call}
use Rattle.grb_call.specs.declared.ids.Object.{Object}
use Rattle.grb_call.specs.Operands.{objects_read}
use Rattle.grb_call.specs.Refused.{refused_by_shapes}
use Rattle.grb_call.specs.Shapes.{is_live}
use Rattle.grb_call.specs.Store.{Store, shapes_of}
use Rattle.grb_slices.specs.Content.{Contents, content_at}
use Rattle.grb_slices.specs.Slice.{is_among}
use Rattle.grb_slices.specs.Steps.{AgreeOn}
use Rattle.grb_links.specs.Lasts.{last_of}
use Rattle.grb_links.specs.declared.node.Node.{Node}
use Rattle.grb_results.specs.declared.table.Table.{Table}
use Rattle.grb_objects.specs.SharedContent.{is_assembled_content}
use Rattle.grb_objects.specs.declared.shared_content.SharedContent.{SharedContent}
use Rattle.grb_links.specs.Overwrites.{blank_of, shape_noted}
use Rattle.grb_results.specs.Value.{content_of}

-- this is what the target of the call at this place holds right after it
abbrev pub IsResult : List Call → ℕ → SharedContent → Type 0
IsResult cs k v = (o : Object) → target_in cs k ≡ Some o → contents_after cs (suc k) o ≡ Some (content_of v)

abbrev pub AreResults : List Call → List (Option SharedContent) → Type 0
AreResults cs rs = (k : ℕ) (v : SharedContent) → slice_get rs k ≡ Some (Some v) → IsResult cs k v

-- the result of the call at this place is kept, and no change waits in it
pub record IsReadyAt (rs : List (Option SharedContent)) (k : ℕ) : Type 0 where
  pub content : SharedContent
  pub kept : slice_get rs k ≡ Some (Some content)
  pub assembled : is_assembled_content content ≡ true

-- it is, if that call was the last to change an object that is there
abbrev pub IsReadyAfter : Table → ℕ → Type 0
IsReadyAfter t k = (o : Object) → is_live t.learnt.shapes.objects o ≡ true → last_of t.learnt.lasts o ≡ suc k → IsReadyAt t.results.items k

-- it is, of each of the first calls, so many as the table has as settled
abbrev pub AreSettled : Table → Type 0
AreSettled t = (k : ℕ) → k < t.settled → IsReadyAfter t k

-- the call at this place is none of those, or was not the last to change an object that is there
abbrev pub IsApart : Table → ℕ → Type 0
IsApart t k = (o : Object) → is_live t.learnt.shapes.objects o ≡ true → last_of t.learnt.lasts o ≡ suc k → k < t.settled → ⊥

-- the table is of the first calls of the list: these were learnt, and what it keeps are results of them; and what it has as settled is so
pub record IsTable (cs : List Call) (t : Table) : Type 0 where
  pub learnt : IsLearnt cs t.learnt
  pub results : AreResults cs t.results.items
  pub places : length t.results.items ≡ length t.learnt.nodes.items
  pub settled : AreSettled t
  pub within : t.settled ≤ length t.learnt.nodes.items

-- each object holds what stands at its place
abbrev pub AreHeld : Contents → List Object → List SharedContent → Type 0
AreHeld r [] [] = Unit {0}
AreHeld r [] (v ∷ vs) = ⊥
AreHeld r (o ∷ os) [] = ⊥
AreHeld r (o ∷ os) (v ∷ vs) = (r o ≡ Some (content_of v)) × AreHeld r os vs

-- some store holds these, and its shapes do not refuse the call
pub record MayMake (c : Call) (vs : List SharedContent) : Type 0 where
  pub store : Store
  pub accepted : refused_by_shapes (shapes_of store) c ≡ None
  pub held : AreHeld (content_at store) (objects_read c) vs

abbrev pub LinksTo : Table → ℕ → ℕ → Type 0
LinksTo t k m = (node : Node) → slice_get t.learnt.nodes.items k ≡ Some node → IsLink node.links m

-- the call at this place is one of those of which results may be kept, and is not refused
pub record IsToMake (cs : List Call) (n k : ℕ) : Type 0 where
  pub near : k < n
  pub accepted : is_some (target_in cs k) ≡ true

-- a result that is kept was kept here, or there by another
pub data IsFrom (mine theirs : List (Option SharedContent)) (k : ℕ) (v : SharedContent) : Type 0 where
  Mine : slice_get mine k ≡ Some (Some v) → IsFrom mine theirs k v
  Theirs : (w : SharedContent) → slice_get theirs k ≡ Some (Some w) → content_of v ≡ content_of w → IsFrom mine theirs k v

abbrev pub AreTaken : List (Option SharedContent) → List (Option SharedContent) → List (Option SharedContent) → Type 0
AreTaken mine theirs new = (k : ℕ) (v : SharedContent) → slice_get new k ≡ Some (Some v) → IsFrom mine theirs k v

-- the bench holds of these objects what is said, and what it held of others, where they are of one store
abbrev pub HoldsAlso : Contents → List Object → Store → Store → Type 0
HoldsAlso r ps old new = (os : List Object) (s : Store) → AgreeOn (is_among os) (content_at old) (content_at s) → ((o : Object) → is_among ps o ≡ true → content_at s o ≡ r o) →
    AgreeOn (is_among (os ++ ps)) (content_at new) (content_at s)

-- this is an object that stores nothing, of the shape of the output of the call at this place
abbrev pub IsBlankAt : Table → ℕ → SharedContent → Type 0
IsBlankAt t k v = (node : Node) → slice_get t.learnt.nodes.items k ≡ Some node → option_map blank_of (shape_noted t.learnt.shapes_noted.items node.noted) ≡ Some (content_of v)
