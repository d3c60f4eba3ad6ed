-- believed: What a contract sees of a list of nodes, and how they are kept (own).
use Rattle.std.specs.Prelude.{ℕ, zero, suc, ◌≤◌, List, [], ◌∷◌, length, slice_get, slice_index, All, Option, Some, None}
use Rattle.std.specs.Option.{option_map_or}
use Rattle.grb_call.specs.declared.ids.Object.{Object}
use Rattle.grb_call.specs.declared.ids.Object.TheVariants as object
use Rattle.grb_links.specs.declared.node.Node.{Node}
use Rattle.grb_links.specs.declared.nodes.Packed.{Packed}
use Rattle.grb_links.specs.declared.nodes.Rest.{Rest}
use Rattle.grb_links.specs.declared.nodes.Target.{Target}
use Rattle.grb_links.specs.declared.nodes.Target.TheVariants as target

-- the nodes, and for how many more, and how many of their rests, there is room
pub record NodeList : Type 0 where
  pub items : List Node
  pub room : ℕ
  pub rest_room : ℕ

abbrev pub no_rest : Rest
no_rest = record { second = 0; third = 0; fourth = 0; noted = 0 }

-- the last of so many rests; zeros of 0
abbrev pub rest_at : List Rest → ℕ → Rest
rest_at rests zero = no_rest
rest_at rests (suc n) = option_map_or (λ r. r) (slice_get rests n) no_rest

-- what a node has beyond its target and its first link
abbrev pub rest_of : Node → Rest
rest_of node = record { second = slice_index node.links 1; third = slice_index node.links 2; fourth = slice_index node.links 3; noted = node.noted }

-- the object that is changed, if one is
abbrev pub object_of : Target → Option Object
object_of target.Nothing = None
object_of (target.Matrix a) = Some (object.Matrix a)
object_of (target.Vector v) = Some (object.Vector v)

-- the node of these two
abbrev pub joined : Packed → Rest → Node
joined p r = record { target = object_of p.target; links = p.link ∷ r.second ∷ r.third ∷ r.fourth ∷ []; noted = r.noted }

-- the node that is kept so
abbrev pub unpacked : List Rest → Packed → Node
unpacked rests p = joined p (rest_at rests p.rest)

-- each node has its rest, if it has one, among so many, and no more are kept than nodes
pub record AreKept (rests : List Rest) (packed : List Packed) : Type 0 where
  pub within : All (λ p. p.rest ≤ length rests) packed
  pub few : length rests ≤ length packed
