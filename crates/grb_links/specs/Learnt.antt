-- believed: What objects hold after the first calls of a list, which calls last changed them, and what is learnt of calls (own).
use Rattle.std.specs.Prelude.{◌≡◌, ℕ, suc, ◌≤◌, List, [], ◌∷◌, length, take, slice_get, Option, Some, None}
use Rattle.std.specs.Option.{option_map_or}
use Rattle.grb_call.specs.declared.call.Call.{Call}
use Rattle.grb_call.specs.declared.ids.Object.{Object}
use Rattle.grb_call.specs.Store.{empty_store, shapes_of}
use Rattle.grb_call.specs.History.{after_all}
use Rattle.grb_slices.specs.Content.{Contents, content_at, effective_target}
use Rattle.grb_links.specs.declared.learnt.Learnt.{Learnt}
use Rattle.grb_links.specs.declared.node.Node.{Node}
use Rattle.grb_links.specs.declared.shape.Shape.{Shape}
use Rattle.grb_links.specs.Lasts.{last_of}
use Rattle.grb_links.specs.Overwrites.{objects_needed, shape_needed, shape_noted}

-- what each object holds after so many of the calls
abbrev pub contents_after : List Call → ℕ → Contents
contents_after cs n = content_at (after_all empty_store (take n cs))

-- the object that the call at this place changes; none where it is refused there, or only reads
abbrev pub target_in : List Call → ℕ → Option Object
target_in cs k = option_map_or (effective_target (shapes_of (after_all empty_store (take k cs)))) (slice_get cs k) None

-- what the object holds after n of the calls, it held after the first m; and the last of these changed it
pub record IsSince (cs : List Call) (n : ℕ) (o : Object) (m : ℕ) : Type 0 where
  pub within : m ≤ n
  pub same : contents_after cs n o ≡ contents_after cs m o
  pub changed : (k : ℕ) → m ≡ suc k → target_in cs k ≡ Some o

-- the same of each object of a list, and 0 behind them
abbrev pub AreSince : List Call → ℕ → List Object → List ℕ → Type 0
AreSince cs n [] [] = Unit {0}
AreSince cs n [] (m ∷ ms) = (m ≡ 0) × AreSince cs n [] ms
AreSince cs n (o ∷ os) [] = ⊥
AreSince cs n (o ∷ os) (m ∷ ms) = IsSince cs n o m × AreSince cs n os ms

-- a node is that of the call at this place, where these shapes were noted
pub record IsNode (cs : List Call) (shapes : List Shape) (k : ℕ) (node : Node) : Type 0 where
  pub target_is : node.target ≡ target_in cs k
  pub links_are : (c : Call) → slice_get cs k ≡ Some c → AreSince cs k (objects_needed c) node.links
  pub within : node.noted ≤ length shapes
  pub shape_is : (c : Call) → slice_get cs k ≡ Some c → shape_noted shapes node.noted ≡ shape_needed (shapes_of (after_all empty_store (take k cs))) c

-- the first calls of the list were learnt
pub record IsLearnt (cs : List Call) (t : Learnt) : Type 0 where
  pub within : length t.nodes.items ≤ length cs
  pub shapes_are : t.shapes.objects ≡ shapes_of (after_all empty_store (take (length t.nodes.items) cs))
  pub nodes_are : (k : ℕ) (node : Node) → slice_get t.nodes.items k ≡ Some node → IsNode cs t.shapes_noted.items k node
  pub since : (o : Object) → IsSince cs (length t.nodes.items) o (last_of t.lasts o)

-- one of the links of the call at this place
pub record IsLink (ms : List ℕ) (m : ℕ) : Type 0 where
  pub place : ℕ
  pub is : slice_get ms place ≡ Some m

-- as far as both go, the calls are the same: one begins the other
abbrev pub AreOneHistory : List Call → List Call → Type 0
AreOneHistory cs ds = (n : ℕ) → n ≤ length cs → n ≤ length ds → take n cs ≡ take n ds

-- the first link of the call at this place leads to the call at another place
abbrev pub Follows : Learnt → ℕ → ℕ → Type 0
Follows t k before = (node : Node) → slice_get t.nodes.items k ≡ Some node → slice_get node.links 0 ≡ Some (suc before)

-- this shape was noted for the call at this place, or none
abbrev pub IsShapeAt : Learnt → ℕ → Option Shape → Type 0
IsShapeAt t k q = (node : Node) → slice_get t.nodes.items k ≡ Some node → shape_noted t.shapes_noted.items node.noted ≡ q
